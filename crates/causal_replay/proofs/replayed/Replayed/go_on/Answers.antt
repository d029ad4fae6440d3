use Rattle.std.proofs.Common.{◌∙◌, ℕ, ◌<◌, List, [], ◌∷◌, ◌++◌, Option, Some, ap, arith, length, subst}
use Rattle.std.proofs.lemmas.Option.{slice_get-get_or}
use Rattle.event_world.specs.declared.event.Event.{Event}
use Rattle.causal_replay.specs.Going.{Awaits}
use Rattle.causal_replay.proofs.Segments.{go_kept, go_met, go_missed, go_skipped}
use Rattle.causal_replay.proofs.replayed.Replayed.go_on.Goals as goal

pub returns-in_ok-take : goal.returns-in_ok-take
returns-in_ok-take g c =
    let line = (c.requires.line c.in-In.position c.in-In.is).0 in
    let below : c.in-In.position < length c.args.keep.now = omega (arith, c.requires.keep) in
    go_kept g.C.Controller.react g.C.Controller.policies c.args.setup.now c.args.keep.now c.args.at c.in-In.position c.args.entry.now c.args.self.now.run c.take.new.self.run c.args.self.now.absent c.take.new.self.absent c.args.self.now.world c.take.new.self.world
    c.in-In.is (slice_get-get_or c.args.keep.now c.in-In.position _ below ∙ ap Some c.if-keep-position.true) c.in_ok-take.ensures.run c.in_ok-take.ensures.absent c.in_ok-take.ensures.world c.in_ok-take.ensures.fits

pub returns-else-keep-position : goal.returns-else-keep-position
returns-else-keep-position g c =
    let line = (c.requires.line c.in-In.position c.in-In.is).0 in
    let below : c.in-In.position < length c.args.keep.now = omega (arith, c.requires.keep) in
    go_skipped g.C.Controller.react g.C.Controller.policies c.args.setup.now c.args.keep.now c.args.at c.in-In.position c.args.entry.now c.args.self.now.run c.args.self.now.absent c.args.self.now.world
    c.in-In.is (slice_get-get_or c.args.keep.now c.in-In.position _ below ∙ ap Some c.if-keep-position.false) c.requires.fits

pub returns-in_ok-take-in-Some : goal.returns-in_ok-take-in-Some
returns-in_ok-take-in-Some g c =
    let awaits = subst (λ (found : Option Event). Awaits g.C.Controller.react g.C.Controller.policies c.args.setup.now c.args.entry.now c.args.self.now.run c.awaited.new.self.run c.args.self.now.world c.awaited.new.self.world found) c.in-Some.is c.in_ok-event.ensures.awaited in
    go_met g.C.Controller.react g.C.Controller.policies c.args.setup.now c.args.keep.now c.args.at c.args.entry.now c.in-Some.event c.args.self.now.run c.awaited.new.self.run c.take-in-Some.new.self.run c.args.self.now.absent c.take-in-Some.new.self.absent
    c.args.self.now.world c.awaited.new.self.world c.take-in-Some.new.self.world c.requires.setup awaits
    c.in_ok-take-in-Some.ensures.run (c.in_ok-take-in-Some.ensures.absent ∙ c.in_ok-event.ensures.absent) c.in_ok-take-in-Some.ensures.world c.in_ok-take-in-Some.ensures.fits

pub returns-in_ok-push-in-None : goal.returns-in_ok-push-in-None
returns-in_ok-push-in-None g c =
    let awaits = subst (λ (found : Option Event). Awaits g.C.Controller.react g.C.Controller.policies c.args.setup.now c.args.entry.now c.args.self.now.run c.awaited.new.self.run c.args.self.now.world c.awaited.new.self.world found) c.in-None.is c.in_ok-event.ensures.awaited in
    go_missed g.C.Controller.react g.C.Controller.policies c.args.setup.now c.args.keep.now c.args.at c.args.entry.now c.args.self.now.run c.awaited.new.self.run c.args.self.now.absent c.push.new.self c.args.self.now.world c.awaited.new.self.world
    c.requires.setup c.in_default.not-In awaits (c.in_ok-push-in-None.ensures.ok ∙ ap (λ (places : List ℕ). places ++ c.args.at ∷ []) c.in_ok-event.ensures.absent)
