-- The new interval has the field's width.
use Rattle.header_classes.proofs.Headers.{cell_set}
use Rattle.header_classes.proofs.cell.Cell.set.Goals as goal

pub invariant_of-self : goal.invariant_of-self
invariant_of-self c = cell_set c.self.inside.intervals c.args.field c.args.interval c.self.invariant c.requires.valid
