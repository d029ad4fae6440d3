-- The inner cell lies in the cell.
use Rattle.std.proofs.Common.{arith, subst, List}
use Rattle.std.specs.List.{AllZip}
use Rattle.header_classes.specs.Interval.{IsInner}
use Rattle.header_classes.specs.declared.interval.Interval.{Interval}
use Rattle.invariant_check.proofs.Leasts.{inner_le}
use Rattle.invariant_check.proofs.least.look.Goals as goal

pub returns-clause-kept : goal.returns-clause-kept
returns-clause-kept c = λ h.
    let whole = c.in_ok-add_rest.ensures.whole h in
    let nested : AllZip IsInner c.args.cell c.explore.new.class.cell = subst (λ (outer : List Interval). AllZip IsInner outer c.explore.new.class.cell) c.of-class.ensures.cell c.explore.ensures.narrowed.inner in
    let inner = inner_le c.args.cell c.explore.new.class.cell h (c.inner_cells_are_parts.ensures.part c.args.cell c.explore.new.class.cell h nested) in
    omega (arith, whole, inner)
