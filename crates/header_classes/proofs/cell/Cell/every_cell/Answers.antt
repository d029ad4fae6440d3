-- The facts follow from the invariant.
use Rattle.std.proofs.Common.{subst}
use Rattle.header_classes.specs.Cell.{IsCell, widths}
use Rattle.header_classes.proofs.Boxes.{inner_itself}
use Rattle.header_classes.proofs.Headers.{in_cell-valid, least_inside, length-cell, lows}
use Rattle.header_classes.proofs.Sizes.{size_some}
use Rattle.header_classes.proofs.cell.Cell.every_cell.Goals as goal

pub returns-clause-fields : goal.returns-clause-fields
returns-clause-fields c = length-cell c.args.self.now (subst IsCell c.self.view_is c.self.invariant)

pub returns-clause-valid : goal.returns-clause-valid
returns-clause-valid c = λ h. in_cell-valid c.args.self.now h (subst IsCell c.self.view_is c.self.invariant)

pub returns-clause-inner : goal.returns-clause-inner
returns-clause-inner c = inner_itself widths c.args.self.now (subst IsCell c.self.view_is c.self.invariant)

pub returns-clause-some : goal.returns-clause-some
returns-clause-some c =
    let cell = subst IsCell c.self.view_is c.self.invariant in
    (_, least_inside c.args.self.now _ cell (lows c.args.self.now cell))

pub returns-clause-size : goal.returns-clause-size
returns-clause-size c = size_some widths c.args.self.now (subst IsCell c.self.view_is c.self.invariant)
