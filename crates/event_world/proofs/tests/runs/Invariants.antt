use Rattle.event_world.specs.Fits.{Fits}
use Rattle.event_world.proofs.tests.runs.Given as goal

abbrev pub invariant-loop-event : goal.invariant-loop-event
invariant-loop-event l = Fits (λ greeter. greeter.policies) l.setup l.world
