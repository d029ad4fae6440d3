use Rattle.std.proofs.Common.{◌≡◌, drop, map}
use Rattle.switch_core.specs.Leaving.{leave_all}
use Rattle.switch_core.specs.Step.{sent_by}
use Rattle.switch_core.proofs.steps.send_outputs.Given as goal

-- what was sent, with what the outputs that are left send, is what all send
abbrev pub invariant-loop-output : goal.invariant-loop-output
invariant-loop-output l =
    leave_all l.sending.sent (map (sent_by l.in_port l.tag) (drop l.output-index l.outputs)) ≡ leave_all l.fn.sending.sent (map (sent_by l.in_port l.tag) l.outputs)
