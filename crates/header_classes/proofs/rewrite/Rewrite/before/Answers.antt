-- One field more, or no number comes into its interval.
use Rattle.std.proofs.Common.{add-one, sym}
use Rattle.std.proofs.lemmas.List.{length-set}
use Rattle.header_classes.proofs.Rewrites.{brings_more, brings_none}
use Rattle.header_classes.proofs.rewrite.Rewrite.before.Goals as goal

pub returns-in_err-before : goal.returns-in_err-before
returns-in_err-before c = λ h valid. rw c.from_residual.ensures (sym
    (brings_none c.args.self.now c.args.cell.now h c.loop-field.field c.interval.result c.interval.ensures.here c.loop-field-test.true valid
    (rw (c.width.ensures.here, c.numbers-numbers.ensures.same) at c.in_err-before.ensures.before)))

pub loop-field-preserved : goal.loop-field-preserved
loop-field-preserved c = rw (add-one, c.set.ensures) record {
  brings = brings_more c.args.self.now c.args.cell.now c.loop-field.part c.loop-field.field c.interval.result c.in_ok-before.before
      c.interval.ensures.here c.loop-field-test.true c.loop-field.invariant.long c.loop-field.invariant.brings
      (rw (c.width.ensures.here, c.numbers-numbers.ensures.same) at c.in_ok-before.ensures.before);
  long = rw length-set c.loop-field.invariant.long;
}
