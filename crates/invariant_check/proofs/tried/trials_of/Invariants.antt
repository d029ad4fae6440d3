-- So far each table has its trials.
use Rattle.std.proofs.Common.{take}
use Rattle.std.specs.List.{AllZip}
use Rattle.header_classes.specs.Trials.{AreTrials}
use Rattle.invariant_check.proofs.tried.trials_of.Given as goal

abbrev pub invariant-loop-table : goal.invariant-loop-table
invariant-loop-table l = AllZip AreTrials (take l.table-index l.table-items) l.trials.items
