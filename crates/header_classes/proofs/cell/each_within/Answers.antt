-- One number more is within its interval, or one is not.
use Rattle.std.proofs.Common.{◌∙◌, add-one, sym, arith}
use Rattle.std.proofs.lemmas.Bool.{and_from}
use Rattle.std.proofs.lemmas.Option.{slice_get-get_or}
use Rattle.header_classes.proofs.Boxes.{each_within-more, outside}
use Rattle.header_classes.proofs.cell.each_within.Goals as goal

pub returns-then-not-has : goal.returns-then-not-has
returns-then-not-has c =
    let here = slice_get-get_or c.args.intervals.now c.loop-field.field record { low = 0; high = 0 } c.loop-field-test.true in
    sym (outside c.args.intervals.now c.args.numbers.now c.loop-field.field _ here (omega arith) (sym c.has.ensures ∙ c.if-not-has.true))

pub loop-field-preserved : goal.loop-field-preserved
loop-field-preserved c =
    let here = slice_get-get_or c.args.intervals.now c.loop-field.field record { low = 0; high = 0 } c.loop-field-test.true in
    let more = each_within-more c.args.intervals.now c.args.numbers.now c.loop-field.field _ here (omega arith) in
    rw (add-one, more) (and_from _ _ c.loop-field.invariant (sym c.has.ensures ∙ c.if-not-has.false))
