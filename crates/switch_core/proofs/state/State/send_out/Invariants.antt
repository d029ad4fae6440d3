use Rattle.std.proofs.Common.{◌≡◌, ◌++◌, drop, filter_map, flat_map}
use Rattle.switch_core.specs.Leaving.{leave_all}
use Rattle.switch_core.specs.Step.{hit_by, sent_out}
use Rattle.switch_core.proofs.state.State.send_out.Given as goal

-- what was sent and hit, with what the outputs that are left send and hit, is what all do
abbrev pub invariant-loop-output : goal.invariant-loop-output
invariant-loop-output l = record {
  sent : leave_all l.sending.sent (flat_map (sent_out l.self l.in_port l.tag) (drop l.output-index l.outputs))
      ≡ leave_all l.fn.sending.sent (flat_map (sent_out l.self l.in_port l.tag) l.outputs);
  hits : l.hits.items ++ filter_map (hit_by l.self l.in_port) (drop l.output-index l.outputs) ≡ filter_map (hit_by l.self l.in_port) l.outputs;
}
