-- The atoms so far and those to come are all.
use Rattle.std.proofs.Common.{◌≡◌, ◌++◌, drop}
use Rattle.causal_minimizer.specs.Failing.{atoms_with}
use Rattle.causal_minimizer.proofs.marks.atoms_with.Given as goal

abbrev pub invariant-loop-number : goal.invariant-loop-number
invariant-loop-number l = l.chosen ++ atoms_with l.atoms (drop l.number-index l.numbers) ≡ atoms_with l.atoms l.numbers
