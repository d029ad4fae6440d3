use Rattle.std.proofs.Common.{◌≡◌, [], replicate}
use Rattle.scenario_gen.proofs.ring.no_presets.Given as goal

abbrev pub invariant-loop-s : goal.invariant-loop-s
invariant-loop-s l = l.presets ≡ replicate l._s []
