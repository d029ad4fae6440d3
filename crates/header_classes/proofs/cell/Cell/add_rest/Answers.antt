-- What lies below and above in one field more, and at the end the part is the inner cell.
use Rattle.std.proofs.Common.{◌≡◌, ◌+◌, cond, take, ℕ, subst, arith}
use Rattle.header_classes.specs.Cell.{in_cell, times}
use Rattle.header_classes.specs.Size.{size, sizes}
use Rattle.header_classes.specs.declared.interval.Interval.{Interval}
use Rattle.std.proofs.Common.{List}
use Rattle.header_classes.proofs.Boxes.{inner_at, outer_set}
use Rattle.header_classes.proofs.Cuts.{around_more, same_all, same_more}
use Rattle.header_classes.proofs.Sizes.{sizes_more}
use Rattle.header_classes.proofs.cell.Cell.add_rest.Goals as goal

pub loop-field-preserved : goal.loop-field-preserved
loop-field-preserved c =
    let part = c.loop-field.part in
    let field = c.loop-field.field in
    let outer = c.interval-outer.result in
    let inner = c.interval-within.result in
    let nested = inner_at part c.args.inner.now field outer inner c.loop-field.invariant.inner c.interval-outer.ensures.here c.interval-within.ensures.here in
    record {
      whole = λ h.
          let so_far = c.loop-field.invariant.whole h in
          let below = rw c.narrowed.ensures at (c.in_ok-add.ensures.headers h) in
          let above = rw c.narrowed-in-loop-field.ensures at (c.in_ok-add-2.ensures.headers h) in
          let three = around_more part h field outer inner c.below.result c.above.result c.interval-outer.ensures.here c.loop-field-test.true nested c.below.ensures.below c.above.ensures.above in
          rw c.set.ensures (omega (arith, so_far, below, above, three));
      sizes =
          let so_far = c.loop-field.invariant.sizes in
          let below = rw c.narrowed.ensures at c.in_ok-add.ensures.sizes in
          let above = rw c.narrowed-in-loop-field.ensures at c.in_ok-add-2.ensures.sizes in
          let three = sizes_more part field outer inner c.below.result c.above.result c.interval-outer.ensures.here nested
          (c.below.ensures.breadth (omega (arith, nested.ordered, nested.high))) (c.above.ensures.breadth (omega (arith, nested.ordered, nested.low))) in
          rw c.set.ensures (omega (arith, so_far, below, above, three));
      inner = rw c.set.ensures (outer_set part c.args.inner.now field inner c.loop-field.invariant.inner c.interval-within.ensures.here);
      few = omega (arith, c.loop-field.invariant.few, c.in_ok-add.ensures.few, c.in_ok-add-2.ensures.few);
      same = rw c.set.ensures (same_more part c.args.inner.now field outer inner c.interval-outer.ensures.here c.interval-within.ensures.here c.loop-field.invariant.same);
    }

pub returns-clause-whole : goal.returns-clause-whole
returns-clause-whole c = λ h.
    let at_end : c.loop-field.field ≡ 11 = omega arith in
    let same = subst (λ (n : ℕ). take n c.loop-field.part ≡ take n c.args.inner.now) at_end c.loop-field.invariant.same in
    let part = same_all c.loop-field.part c.args.inner.now c.every_cell.ensures.fields c.loop-field.invariant.inner same in
    subst (λ (p : List Interval). times c.loop-field.rest h + cond (in_cell p h) 1 0 ≡ times c.args.rest.now h + cond (in_cell c.args.self.now h) 1 0) part (c.loop-field.invariant.whole h)

pub returns-clause-sizes : goal.returns-clause-sizes
returns-clause-sizes c =
    let at_end : c.loop-field.field ≡ 11 = omega arith in
    let same = subst (λ (n : ℕ). take n c.loop-field.part ≡ take n c.args.inner.now) at_end c.loop-field.invariant.same in
    let part = same_all c.loop-field.part c.args.inner.now c.every_cell.ensures.fields c.loop-field.invariant.inner same in
    subst (λ (p : List Interval). sizes c.loop-field.rest + size p ≡ sizes c.args.rest.now + size c.args.self.now) part c.loop-field.invariant.sizes
