-- One field more, or none of its numbers is in both.
use Rattle.std.proofs.Common.{add-one, sym}
use Rattle.header_classes.proofs.Boxes.{inner_set}
use Rattle.header_classes.proofs.Cuts.{meet_more, meet_none}
use Rattle.header_classes.proofs.cell.Cell.meet.Goals as goal

pub returns-in_err-both-clause-both : goal.returns-in_err-both-clause-both
returns-in_err-both-clause-both c = λ h. rw c.from_residual.ensures (sym
    (meet_none c.args.self.now c.loop-field.part c.args.other.now h c.loop-field.field c.interval.result c.interval-in-loop-field.result
    c.interval.ensures.here c.interval-in-loop-field.ensures.here c.loop-field-test.true (c.loop-field.invariant.both h) (λ y. sym (c.in_err-both.ensures.both y))))

pub loop-field-preserved : goal.loop-field-preserved
loop-field-preserved c = record {
  both = λ h. rw (add-one, c.set.ensures)
      (meet_more c.args.self.now c.loop-field.part c.args.other.now h c.loop-field.field c.interval.result c.interval-in-loop-field.result c.in_ok-both.both
      c.interval.ensures.here c.interval-in-loop-field.ensures.here c.loop-field-test.true (c.loop-field.invariant.both h) c.in_ok-both.ensures.both);
  inner = rw c.set.ensures
      (inner_set c.args.self.now c.loop-field.part c.loop-field.field c.interval.result c.in_ok-both.both c.loop-field.invariant.inner c.interval.ensures.here c.in_ok-both.ensures.inner);
}
