-- The step of one action.
use Rattle.std.proofs.Common.{◌++◌}
use Rattle.std.proofs.lemmas.List.Elements.{All-append, All-same}
use Rattle.of10_match.specs.Header.{IsValidHeader}
use Rattle.flow_table.specs.Outcome.{outputs_of, outcome}
use Rattle.flow_table.specs.declared.outputs.Output.{Output}
use Rattle.flow_table.proofs.Outcomes.{next_action, sent_valid}
use Rattle.flow_table.proofs.outputs.outcome.Goals as goal

pub loop-action-preserved : goal.loop-action-preserved
loop-action-preserved c =
    let header = c.loop-action.header in
    let a = c.action-item.result in
    let ports = c.args.ports in
    let in_port = c.args.in_port in
    let valid = λ (o : Output). IsValidHeader o.header in
    let all = next_action ports in_port header c.args.actions.now c.loop-action.action-index a c.loop-action.outputs c.put_outputs_of.new.outputs
    (outcome ports in_port c.args.header.now c.args.actions.now) c.loop-action-test.true c.action-item.is c.in_ok-put_outputs_of.ensures c.loop-action.invariant.all in
    record {
      all = rw c.after_action-header.ensures.header all;
      valid = c.after_action-header.ensures.valid;
      each = All-same valid c.put_outputs_of.new.outputs (c.loop-action.outputs ++ outputs_of ports in_port header a) c.in_ok-put_outputs_of.ensures
          (All-append valid c.loop-action.outputs (outputs_of ports in_port header a) c.loop-action.invariant.each
          (sent_valid ports in_port header a c.loop-action.invariant.valid));
    }
