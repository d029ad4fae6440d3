-- So far each number is within its interval.
use Rattle.std.proofs.Common.{◌≡◌, true, take}
use Rattle.header_classes.specs.Cell.{each_within}
use Rattle.header_classes.proofs.cell.each_within.Given as goal

abbrev pub invariant-loop-field : goal.invariant-loop-field
invariant-loop-field l = each_within (take l.field l.intervals) l.numbers ≡ true
