-- So far each number of the header is within the other cell, and nothing has changed.
use Rattle.std.proofs.Common.{◌≡◌, true, take}
use Rattle.header_classes.specs.Cell.{each_within}
use Rattle.header_classes.proofs.cell.Cell.leave.Given as goal

abbrev pub invariant-loop-field : goal.invariant-loop-field
invariant-loop-field l = record {
  same : l.self ≡ l.initial.self;
  inside : each_within (take l.field l.other) l.numbers ≡ true;
}
