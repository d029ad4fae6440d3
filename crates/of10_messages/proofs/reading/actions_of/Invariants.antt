-- The actions that were read and those that are left are all, and none that is left is bad.
use Rattle.std.proofs.Common.{◌≡◌, ◌-◌, ◌≤◌, ◌++◌, length, drop, None}
use Rattle.of10_messages.specs.Reading.{actions_of}
use Rattle.of10_messages.specs.Refusal.{first_bad}
use Rattle.of10_messages.proofs.reading.actions_of.Given as goal

abbrev pub invariant-loop-at : goal.invariant-loop-at
invariant-loop-at l = record {
  within : l.at ≤ length l.bytes;
  good : first_bad (drop l.at l.bytes) ≡ None;
  all : l.actions ++ actions_of (drop l.at l.bytes) ≡ actions_of l.bytes;
}

abbrev pub decreases-loop-at : goal.decreases-loop-at
decreases-loop-at l = length l.bytes - l.at
