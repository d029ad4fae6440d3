-- So far the least header with a forbidden walk is the witness's, or is in a cell that is left. Each turn takes a cell off, and puts
-- less of it back, in at most 22 cells.
use Rattle.std.proofs.Common.{◌+◌, ◌*◌, length}
use Rattle.header_classes.specs.Size.{sizes}
use Rattle.invariant_check.proofs.Leasts.{IsSoFar}
use Rattle.invariant_check.proofs.least.least_witness.Given as goal

abbrev pub invariant-loop-last : goal.invariant-loop-last
invariant-loop-last l = IsSoFar l.net l.invariant' l.s l.p l.fn.cell l.left l.best

abbrev pub decreases-loop-last : goal.decreases-loop-last
decreases-loop-last l = 23 * sizes l.left + length l.left
