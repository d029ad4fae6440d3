-- The first action that is refused is the first of those that are left.
use Rattle.std.proofs.Common.{◌≡◌, drop}
use Rattle.switch_core.specs.Refusal.{actions_refusal}
use Rattle.switch_core.proofs.refusals.actions_refusal.Given as goal

abbrev pub invariant-loop-action : goal.invariant-loop-action
invariant-loop-action l = actions_refusal l.in_packet_out l.ports (drop l.action-index l.actions) ≡ actions_refusal l.in_packet_out l.ports l.actions
