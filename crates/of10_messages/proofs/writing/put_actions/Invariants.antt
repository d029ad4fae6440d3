-- The actions so far stand at the end.
use Rattle.std.proofs.Common.{◌≡◌, ◌++◌, take}
use Rattle.of10_messages.specs.Wire.{actions_bytes}
use Rattle.of10_messages.proofs.writing.put_actions.Given as goal

abbrev pub invariant-loop-action : goal.invariant-loop-action
invariant-loop-action l = l.out.items ≡ l.fn.out.items ++ actions_bytes (take l.action-index l.actions)
