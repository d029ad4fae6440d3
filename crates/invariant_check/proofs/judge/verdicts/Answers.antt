-- One verdict more.
use Rattle.std.proofs.Common.{add-one}
use Rattle.topology.specs.declared.invariant.Invariant.TheVariants.{LoopFree}
use Rattle.invariant_check.specs.Verdict.{IsVerdict}
use Rattle.invariant_check.proofs.Verdicts.{judged_more}
use Rattle.invariant_check.proofs.judge.verdicts.Goals as goal

pub loop-invariant-preserved : goal.loop-invariant-preserved
loop-invariant-preserved c =
    let more = judged_more (IsVerdict c.args.net.now) c.args.list.now c.loop-invariant.verdicts c.loop-invariant.invariant-index LoopFree c.in_ok-judged.field-0
    c.loop-invariant-test.true c.loop-invariant.invariant c.in_ok-judged.ensures in
    rw (c.in_ok-push.ensures.ok, add-one) more
