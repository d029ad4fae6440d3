-- What is carried out is the switch's step with the item.
use Rattle.std.proofs.Common.{◌∙◌, length, ap}
use Rattle.std.proofs.lemmas.Option.{slice_get_within}
use Rattle.pool_book.specs.Pools.{queues}
use Rattle.switch_core.specs.Plan.{counted_state, planned_step}
use Rattle.switch_core.specs.declared.state.State.{State}
use Rattle.event_world.specs.Mail.{Mail}
use Rattle.event_world.specs.Shell.{shared_of}
use Rattle.event_world.specs.World.{Situation, delivered, taken}
use Rattle.event_world.proofs.Steps.{can_number_sent, done, fits_taken, place_within, planning, same_state}
use Rattle.event_world.proofs.world.World.carry_out.Goals as goal

pub exchange-requires : goal.exchange-requires
exchange-requires g c =
    let world = c.args.self.now in
    let setup = c.args.setup.now in
    let plan = planning c.args.name c.args.s world.shared world.switches c.args.planned c.requires.name c.requires.plan in
    can_number_sent setup.topology (length setup.controllers) c.args.s c.self.inside.shell.status world.shared (queues c.self.inside.shell.pools) c.args.planned.outs.up c.args.planned.outs.out c.in_ok-mail.mail c.requires.fits.shared c.requires.events
    (ap (λ (w : Situation g.row.C.Denot). w.shared.pools) c.self.view_is) c.in_ok-mail.ensures plan.few

pub item_mut-requires : goal.item_mut-requires
item_mut-requires g c =
    let world = c.args.self.now in
    let plan = planning c.args.name c.args.s world.shared world.switches c.args.planned c.requires.name c.requires.plan in
    place_within c.self.inside.switches world.switches c.from.result c.args.s (ap (λ (w : Situation g.row.C.Denot). w.switches) c.self.view_is) c.from.ensures
    (slice_get_within world.switches c.args.s plan.state plan.there)

pub returns-clause-fits : goal.returns-clause-fits
returns-clause-fits g c =
    let world = c.args.self.now in
    let setup = c.args.setup.now in
    let shell = c.self.inside.shell in
    let plan = planning c.args.name c.args.s world.shared world.switches c.args.planned c.requires.name c.requires.plan in
    let step = planned_step plan.state c.args.planned in
    let inside : Situation g.row.C.Denot = record { shared = shared_of shell; switches = c.self.inside.switches; controllers = c.self.inside.controllers } in
    let before = same_state c.self.inside.switches world.switches c.from.result c.args.s c.item_mut.result.now plan.state (ap (λ (w : Situation g.row.C.Denot). w.switches) c.self.view_is) c.from.ensures c.item_mut.ensures.value plan.there in
    fits_taken g.C.Controller.react g.C.Controller.policies setup c.args.name c.args.s step world _ c.requires.fits
    (record { message = c.a_step_keeps_the_switch.ensures.message; packet = c.a_step_keeps_the_switch.ensures.packet; notice = c.a_step_keeps_the_switch.ensures.notice })
    plan.takes plan.valid.up plan.valid.out plan.few
    (done g.C.Controller.react setup.topology c.args.name c.args.s c.from.result step world inside (shared_of c.exchange.new.self) c.carry_out.new.self c.self.view_is c.from.ensures plan.takes
    (c.in_ok-exchange.ensures.ok ∙ ap (λ (mail : Mail). delivered mail (taken c.args.name (shared_of shell))) c.in_ok-mail.ensures)
    (c.carry_out.ensures ∙ ap (λ (state : State). counted_state state c.args.planned.counts) before))
