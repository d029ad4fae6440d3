-- So far what was added and the part that is left are the cell, and the part has the inner intervals so far.
use Rattle.std.proofs.Common.{◌≡◌, ◌+◌, ◌*◌, ◌≤◌, cond, length, take}
use Rattle.std.specs.List.{AllZip}
use Rattle.of10_match.specs.declared.header.Header.{Header}
use Rattle.header_classes.specs.Interval.{IsInner}
use Rattle.header_classes.specs.Cell.{in_cell, times}
use Rattle.header_classes.specs.Size.{size, sizes}
use Rattle.header_classes.proofs.cell.Cell.add_rest.Given as goal

abbrev pub invariant-loop-field : goal.invariant-loop-field
invariant-loop-field l = record {
  whole : (h : Header) → times l.rest h + cond (in_cell l.part h) 1 0 ≡ times l.initial.rest h + cond (in_cell l.self h) 1 0;
  sizes : sizes l.rest + size l.part ≡ sizes l.initial.rest + size l.self;
  inner : AllZip IsInner l.part l.inner;
  few : length l.rest ≤ length l.initial.rest + 2 * l.field;
  same : take l.field l.part ≡ take l.field l.inner;
}
