-- No earlier line up to here is one with it.
use Rattle.std.proofs.Common.{◌≡◌, ℕ, ◌<◌, false}
use Rattle.input_atoms.specs.Atoms.{are_one}
use Rattle.input_atoms.proofs.pairing.has_failure.Given as goal

abbrev pub invariant-loop-first : goal.invariant-loop-first
invariant-loop-first l = (k : ℕ) → k < l.first → are_one l.script k l.later ≡ false
