-- The flags so far, marked at the positions to come, are those of all positions.
use Rattle.std.proofs.Common.{◌≡◌, drop}
use Rattle.causal_minimizer.specs.Marking.{marked}
use Rattle.causal_minimizer.proofs.marks.mark.Given as goal

abbrev pub invariant-loop-position : goal.invariant-loop-position
invariant-loop-position l = marked (drop l.position-index l.atom) l.keep ≡ marked l.atom l.fn.keep
