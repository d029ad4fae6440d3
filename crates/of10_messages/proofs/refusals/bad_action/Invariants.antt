-- The first bad action of what is left is the first bad one.
use Rattle.std.proofs.Common.{◌≡◌, ◌-◌, ◌≤◌, length, drop}
use Rattle.of10_messages.specs.Refusal.{first_bad}
use Rattle.of10_messages.proofs.refusals.bad_action.Given as goal

abbrev pub invariant-loop-at : goal.invariant-loop-at
invariant-loop-at l = record { within : l.at ≤ length l.bytes; same : first_bad (drop l.at l.bytes) ≡ first_bad l.bytes }

abbrev pub decreases-loop-at : goal.decreases-loop-at
decreases-loop-at l = length l.bytes - l.at
