-- The world is one of the setup.
use Rattle.event_world.specs.Fits.{Fits}
use Rattle.sts_bench.proofs.worlds.run.Given as goal

abbrev pub invariant-loop : goal.invariant-loop
invariant-loop l = Fits (λ relay. 0) l.setup l.world
