use Rattle.flow_table.proofs.Changes.{table_filter}
use Rattle.flow_table.proofs.change.delete.Goals as goal

pub returns-clause-table : goal.returns-clause-table
returns-clause-table c = rw c.in_ok-removed.ensures.kept (table_filter _ _ c.requires.table)
