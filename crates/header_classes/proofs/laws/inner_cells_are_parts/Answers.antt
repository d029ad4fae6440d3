-- Interval by interval.
use Rattle.header_classes.specs.Cell.{fields}
use Rattle.header_classes.proofs.Boxes.{inner_chain, inner_part}
use Rattle.header_classes.proofs.laws.inner_cells_are_parts.Goals as goal

pub returns-clause-part : goal.returns-clause-part
returns-clause-part c = λ outer inner h nested inside. inner_part outer inner (fields h) nested inside

pub returns-clause-chain : goal.returns-clause-chain
returns-clause-chain c = inner_chain
