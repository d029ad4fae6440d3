-- What the actions so far send, and what those that are left send, is what all send.
use Rattle.std.proofs.Common.{◌≡◌, ◌++◌, All, drop}
use Rattle.of10_match.specs.Header.{IsValidHeader}
use Rattle.flow_table.specs.Outcome.{outcome}
use Rattle.flow_table.proofs.outputs.outcome.Given as goal

abbrev pub invariant-loop-action : goal.invariant-loop-action
invariant-loop-action l = record {
  all : l.outputs ++ outcome l.ports l.in_port l.header (drop l.action-index l.actions) ≡ outcome l.ports l.in_port l.fn.header l.actions;
  valid : IsValidHeader l.header;
  each : All (λ output. IsValidHeader output.header) l.outputs;
}
