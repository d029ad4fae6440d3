-- One field more.
use Rattle.std.proofs.Common.{◌≡◌, ◌∙◌, add-one, subst, sym, arith, true, take}
use Rattle.std.proofs.lemmas.List.{length-set}
use Rattle.header_classes.specs.Cell.{each_within, fields}
use Rattle.header_classes.specs.Rewrite.{rewritten}
use Rattle.header_classes.proofs.Rewrites.{all_fields, made_more, number_at}
use Rattle.header_classes.proofs.rewrite.Rewrite.after.Goals as goal

pub loop-field-preserved : goal.loop-field-preserved
loop-field-preserved c = rw (add-one, c.set.ensures) record {
  put = λ h inside. made_more c.args.self.now c.args.cell.now c.loop-field.made h c.loop-field.field c.interval.result c.after-after.result
      c.interval.ensures.here c.loop-field-test.true c.loop-field.invariant.long inside (c.loop-field.invariant.put h inside)
      (rw c.numbers-numbers.ensures.same at c.after-after.ensures.after);
  long = rw length-set c.loop-field.invariant.long;
}

pub returns : goal.returns
returns c = λ h inside.
    let at_end : c.loop-field.field ≡ 11 = omega arith in
    sym (all_fields c.loop-field.made (rewritten c.args.self.now h) c.loop-field.invariant.long)
    ∙ subst (λ n. each_within (take n c.loop-field.made) (fields (rewritten c.args.self.now h)) ≡ true) at_end (c.loop-field.invariant.put h inside)

pub after-after-requires-clause-number : goal.after-after-requires-clause-number
after-after-requires-clause-number c = rw c.width.ensures.here (number_at c.numbers-numbers.result c.loop-field.field c.numbers-numbers.ensures.valid c.loop-field-test.true)
