-- The interval has the field's width.
use Rattle.header_classes.proofs.Headers.{cell_at}
use Rattle.header_classes.proofs.cell.Cell.interval.Goals as goal

pub returns-clause-valid : goal.returns-clause-valid
returns-clause-valid c = cell_at c.self.inside.intervals c.args.field c.self.invariant c.requires
