-- One table more.
use Rattle.std.proofs.Common.{add-one}
use Rattle.header_classes.specs.Trials.{AreTrials}
use Rattle.invariant_check.proofs.Verdicts.{judged_more}
use Rattle.invariant_check.proofs.tried.trials_of.Goals as goal

pub loop-table-preserved : goal.loop-table-preserved
loop-table-preserved c =
    let more = judged_more AreTrials c.deref-table-items.result.now c.loop-table.trials.items c.loop-table.table-index c.table-item.result c.in_ok-of.field-0
    c.loop-table-test.true c.loop-table.invariant (rw c.table-item.is at c.in_ok-of.ensures) in
    rw (c.in_ok-push.ensures.items, add-one) more
