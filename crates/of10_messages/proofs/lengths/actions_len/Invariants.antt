-- The total is that of the actions so far.
use Rattle.std.proofs.Common.{◌≡◌, ◌-◌, ◌^◌, length, min, take}
use Rattle.of10_messages.specs.Wire.{actions_bytes}
use Rattle.of10_messages.proofs.lengths.actions_len.Given as goal

abbrev pub invariant-loop-action : goal.invariant-loop-action
invariant-loop-action l = l.total ≡ min (length (actions_bytes (take l.action-index l.actions))) (2 ^ 64 - 1)
