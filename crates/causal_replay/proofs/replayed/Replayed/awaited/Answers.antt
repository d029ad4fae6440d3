use Rattle.std.proofs.Common.{rules, ◌≡◌, ◌∙◌, List, [], ◌∷◌, ◌++◌, None, arith, refl, sym}
use Rattle.std.proofs.lemmas.List.{length-append}
use Rattle.event_world.specs.declared.event.Event.{Event}
use Rattle.causal_replay.proofs.Enabled.{first_enabled}
use Rattle.causal_replay.proofs.Waiting.{waits_more}
use Rattle.causal_replay.proofs.replayed.Replayed.awaited.Goals as goal

pub take-requires-clause-enabled : goal.take-requires-clause-enabled
take-requires-clause-enabled g c κs within = (first_enabled g.C.Controller.policies c.args.setup.now c.loop.self.world c.in-Some.event c.loop.invariant.2.fits (sym c.in-Some.ensures.event)).enabled

pub loop-preserved : goal.loop-preserved
loop-preserved g c =
    let extra : List Event = c.loop.invariant.0 in
    let waits = c.loop.invariant.2 in
    let is = sym c.in-Some.ensures.event in
    let internal = first_enabled g.C.Controller.policies c.args.setup.now c.loop.self.world c.in-Some.event waits.fits is in
    let none : c.expected-expected.result ≡ None = search rules in (
      extra ++ c.in-Some.event ∷ [],
      length-append extra (c.in-Some.event ∷ []) ∙ omega (arith, c.loop.invariant.1),
      waits_more g.C.Controller.react g.C.Controller.policies c.args.setup.now c.args.entry.now extra c.in-Some.event c.args.self.now.run c.loop.self.run c.take.new.self.run c.args.self.now.world c.loop.self.world c.take.new.self.world
          waits (omega (arith, c.loop.invariant.1)) (c.expected-expected.ensures.none none) is internal c.in_ok-take.ensures.run c.in_ok-take.ensures.world c.in_ok-take.ensures.fits,
      c.in_ok-take.ensures.absent ∙ c.loop.invariant.3,
      refl,
    )
