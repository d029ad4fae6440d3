-- No later line up to here is one with it.
use Rattle.std.proofs.Common.{◌≡◌, ℕ, ◌<◌, ◌≤◌, ◌+◌, false}
use Rattle.input_atoms.specs.Atoms.{are_one}
use Rattle.input_atoms.proofs.pairing.recovery.Given as goal

abbrev pub invariant-loop-later : goal.invariant-loop-later
invariant-loop-later l = (k : ℕ) → l.first + 1 ≤ k → k < l.later → are_one l.script l.first k ≡ false
