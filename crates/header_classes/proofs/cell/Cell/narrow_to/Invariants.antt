-- So far the cell has the headers that the other one has by the fields so far.
use Rattle.std.proofs.Common.{◌≡◌, ◌&&◌, take}
use Rattle.std.specs.List.{AllZip}
use Rattle.of10_match.specs.declared.header.Header.{Header}
use Rattle.header_classes.specs.Interval.{IsInner}
use Rattle.header_classes.specs.Cell.{each_within, fields, in_cell}
use Rattle.header_classes.proofs.cell.Cell.narrow_to.Given as goal

abbrev pub invariant-loop-field : goal.invariant-loop-field
invariant-loop-field l = record {
  both : (h : Header) → in_cell l.self h ≡ (in_cell l.fn.self h && each_within (take l.field l.other) (fields h));
  inner : AllZip IsInner l.fn.self l.self;
}
