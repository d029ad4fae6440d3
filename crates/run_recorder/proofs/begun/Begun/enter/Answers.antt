use Rattle.std.proofs.Common.{rules, ◌≡◌, ◌≤◌, List, [], ◌∷◌, ◌++◌, length, Option, sym, subst}
use Rattle.std.specs.Prelude.{vec_capacity}
use Rattle.machine_setup.specs.declared.setup.Setup.{Setup}
use Rattle.message_pools.specs.declared.item.Item.{Item}
use Rattle.event_world.specs.Fits.{Fits}
use Rattle.event_world.specs.World.{Situation, next}
use Rattle.event_machine.specs.Legal.{IsLegalEvent, earlier_of}
use Rattle.event_machine.specs.declared.trace.Entry.{Entry}
use Rattle.run_recorder.specs.Recording.{Begun, IsBegun, IsComplete, MayStand, item_for}
use Rattle.run_recorder.proofs.Goes.{begun_on}
use Rattle.run_recorder.proofs.begun.Begun.enter.Goals as goal

pub invariant_of-self-2 : goal.invariant_of-self-2
invariant_of-self-2 g c =
    let react = g.C.Controller.react in
    let first = g.C.Controller.start in
    let policies = g.C.Controller.policies in
    let setup : Setup g.row.C.Denot = c.self.inside.setup.now in
    let entries : List Entry = c.self.inside.entries.items in
    let world : Situation g.row.C.Denot = c.self.inside.world in
    let inside : Begun g.row.C.Denot = record { setup = setup; entries = entries; world = world } in
    let is : inside ≡ c.args.self.now = c.self.view_is in
    let entry : Entry = record { worker = c.args.worker; number = c.args.number; event = c.args.event; item = c.in_ok-item.item } in
    let undone : ¬ IsComplete react first setup entries = subst (λ (b : Begun g.row.C.Denot). ¬ IsComplete react first b.setup b.entries) (sym is) c.requires.goes_on in
    let may : MayStand setup world c.args.event = subst (λ (b : Begun g.row.C.Denot). MayStand b.setup b.world c.args.event) (sym is) c.requires.legal in
    let number : c.args.number ≡ earlier_of entries (length entries) c.args.worker = subst (λ (b : Begun g.row.C.Denot). c.args.number ≡ earlier_of b.entries (length b.entries) c.args.worker) (sym is) c.requires.number in
    let item : c.in_ok-item.item ≡ item_for world.shared c.args.event = search rules in
    let legal : IsLegalEvent setup world c.args.event c.in_ok-item.item = subst (λ (i : Option Item). IsLegalEvent setup world c.args.event i) (sym item) may in
    let stepped : c.step.new.self ≡ next react setup world c.args.event = search rules in
    let fits : Fits policies setup c.step.new.self = c.step.ensures.fits in
    let pushed : c.push.new.self.items ≡ entries ++ entry ∷ [] = search rules in
    let room : setup.limits.max_events ≤ vec_capacity c.push.new.self = search rules in
    let begun : IsBegun react first policies (record { setup = setup; entries = entries ++ entry ∷ []; world = c.step.new.self }) =
    begun_on react first policies setup entries world c.step.new.self entry c.a_history_goes_on_by_a_legal_entry.ensures.sound c.a_history_goes_on_by_a_legal_entry.ensures.world c.a_history_goes_on_by_a_legal_entry.ensures.events c.self.invariant.0 undone legal number stepped fits in
    (subst (λ (all : List Entry). IsBegun react first policies (record { setup = setup; entries = all; world = c.step.new.self })) (sym pushed) begun, room)

pub returns-clause-begun : goal.returns-clause-begun
returns-clause-begun g c = (invariant_of-self-2 g c).0
