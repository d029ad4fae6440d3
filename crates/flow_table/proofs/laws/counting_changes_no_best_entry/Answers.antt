-- Rank and match stay.
use Rattle.flow_table.proofs.Counting.{same_best}
use Rattle.flow_table.proofs.laws.counting_changes_no_best_entry.Goals as goal

pub returns : goal.returns
returns c = same_best
