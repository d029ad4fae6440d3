-- The header lies on one side of the other cell, or its next number is within it.
use Rattle.std.proofs.Common.{◌∙◌, ◌<◌, length, add-one, sym}
use Rattle.std.proofs.lemmas.Bool.{and_from}
use Rattle.header_classes.specs.Cell.{fields}
use Rattle.header_classes.proofs.Boxes.{each_within-more, inner_set, inside_at}
use Rattle.header_classes.proofs.Cuts.{apart_cell, field_fits, inner_cell}
use Rattle.header_classes.proofs.cell.Cell.leave.Goals as goal

pub beside-side-requires-clause-here : goal.beside-side-requires-clause-here
beside-side-requires-clause-here c =
    rw c.numbers_of-numbers.ensures
    (inside_at c.loop-field.self (fields c.args.header.now) c.loop-field.field c.interval.result c.interval.ensures.here
    (field_fits c.args.header.now c.loop-field.field c.loop-field-test.true) (rw c.loop-field.invariant.same c.requires.inside))

pub returns-then-not-has-clause-inside : goal.returns-then-not-has-clause-inside
returns-then-not-has-clause-inside c =
    rw c.set.ensures
    (inner_cell c.loop-field.self c.args.header.now c.loop-field.field c.interval.result c.beside-side.result c.interval.ensures.here c.loop-field-test.true c.beside-side.ensures.inner
    ∙ and_from _ _ (rw c.loop-field.invariant.same c.requires.inside) (rw c.numbers_of-numbers.ensures at c.beside-side.ensures.here))

pub returns-then-not-has-clause-inner : goal.returns-then-not-has-clause-inner
returns-then-not-has-clause-inner c =
    rw (c.set.ensures, c.loop-field.invariant.same)
    (inner_set c.args.self.now c.args.self.now c.loop-field.field c.interval.result c.beside-side.result c.every_cell.ensures.inner
    (rw c.loop-field.invariant.same at c.interval.ensures.here) c.beside-side.ensures.inner)

pub returns-then-not-has-clause-apart : goal.returns-then-not-has-clause-apart
returns-then-not-has-clause-apart c = λ h inside.
    apart_cell c.loop-field.self c.args.other.now h c.loop-field.field c.interval.result c.beside-side.result c.interval-outer.result
    c.interval.ensures.here c.interval-outer.ensures.here c.loop-field-test.true c.beside-side.ensures.inner c.beside-side.ensures.apart (rw c.set.ensures at inside)

pub loop-field-preserved : goal.loop-field-preserved
loop-field-preserved c =
    let fits : c.loop-field.field < length c.numbers_of-numbers.result = rw c.numbers_of-numbers.ensures (field_fits c.args.header.now c.loop-field.field c.loop-field-test.true) in
    let more = each_within-more c.args.other.now c.numbers_of-numbers.result c.loop-field.field c.interval-outer.result c.interval-outer.ensures.here fits in
    record {
      same = c.loop-field.invariant.same;
      inside = rw (add-one, more) (and_from _ _ c.loop-field.invariant.inside (sym c.has.ensures ∙ c.if-not-has.false));
    }
