-- So far nothing has changed.
use Rattle.std.proofs.Common.{◌≡◌}
use Rattle.header_classes.proofs.trials.Trials.begin_with_first.Given as goal

abbrev pub invariant-loop-at : goal.invariant-loop-at
invariant-loop-at l = l.cell ≡ l.fn.cell
