-- One field more, or no number becomes the same.
use Rattle.std.proofs.Common.{◌≡◌, add-one, subst, arith}
use Rattle.std.proofs.lemmas.List.{length-set}
use Rattle.header_classes.proofs.Rewrites.{SameUpTo, number_at, same_all, same_more, same_none}
use Rattle.header_classes.proofs.rewrite.Rewrite.same_from.Goals as goal

pub same-requires-clause-one : goal.same-requires-clause-one
same-requires-clause-one c = rw c.width.ensures.here (number_at c.numbers-one.result c.loop-field.field c.numbers-one.ensures.valid c.loop-field-test.true)

pub same-requires-clause-two : goal.same-requires-clause-two
same-requires-clause-two c = rw c.width.ensures.here (number_at c.numbers-two.result c.loop-field.field c.numbers-two.ensures.valid c.loop-field-test.true)

pub returns-in_err-same : goal.returns-in_err-same
returns-in_err-same c = λ h valid. (
  λ inside. absurd (let none = rw c.from_residual.ensures at inside in cc),
  λ same. absurd (same_none c.args.self.now c.args.other.now h c.loop-field.field c.loop-field-test.true valid
      (rw (c.width.ensures.here, c.numbers-one.ensures.same, c.numbers-two.ensures.same) at c.in_err-same.ensures.same) same),
)

pub loop-field-preserved : goal.loop-field-preserved
loop-field-preserved c = rw (add-one, c.set.ensures) record {
  same = same_more c.args.self.now c.args.other.now c.loop-field.part c.loop-field.field c.in_ok-same.same
      c.loop-field-test.true c.loop-field.invariant.long c.loop-field.invariant.same
      (rw (c.width.ensures.here, c.numbers-one.ensures.same, c.numbers-two.ensures.same) at c.in_ok-same.ensures.same);
  long = rw length-set c.loop-field.invariant.long;
}

pub returns : goal.returns
returns c = λ h valid.
    let at_end : c.loop-field.field ≡ 11 = omega arith in
    same_all c.args.self.now c.args.other.now c.loop-field.part h valid c.loop-field.invariant.long
    (subst (SameUpTo c.args.self.now c.args.other.now c.loop-field.part) at_end c.loop-field.invariant.same)
