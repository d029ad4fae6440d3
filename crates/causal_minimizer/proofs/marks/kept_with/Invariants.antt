-- The flags so far, marked at the atoms to come, are those of all atoms.
use Rattle.std.proofs.Common.{◌≡◌, drop, replicate, false}
use Rattle.causal_minimizer.specs.Marking.{marked_all}
use Rattle.causal_minimizer.proofs.marks.kept_with.Given as goal

abbrev pub invariant-loop-number : goal.invariant-loop-number
invariant-loop-number l = marked_all l.atoms (drop l.number-index l.numbers) l.keep.items ≡ marked_all l.atoms l.numbers (replicate l.lines false)
