-- One more port was read.
use Rattle.std.proofs.Common.{arith}
use Rattle.std.proofs.lemmas.Grind.{common_steps}
use Rattle.of10_messages.proofs.Ports.{next_port}
use Rattle.of10_messages.proofs.reading.ports_of.Goals as goal

pub loop-at-preserved : goal.loop-at-preserved
loop-at-preserved c =
    let next = next_port c.args.count c.loop-at.at c.args.bytes.now c.loop-at-test.true in
    grind (arith, common_steps, next, c.in_ok-push.ensures.ok, c.rest_at.ensures.rest)
