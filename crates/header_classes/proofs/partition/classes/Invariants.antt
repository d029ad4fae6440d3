-- So far the classes and the cells left are the cell, each class has its best entry, and no entry so far takes what is left.
use Rattle.std.proofs.Common.{◌≡◌, ◌+◌, ◌<◌, All, cond}
use Rattle.of10_match.specs.declared.header.Header.{Header}
use Rattle.header_classes.specs.Cell.{cells_of, in_cell, times}
use Rattle.header_classes.proofs.Classes.{HasBest, Misses}
use Rattle.header_classes.proofs.partition.classes.Given as goal

abbrev pub invariant-loop-place : goal.invariant-loop-place
invariant-loop-place l = record {
  whole : (h : Header) → times (cells_of l.classes) h + times l.left h ≡ cond (in_cell l.cell h) 1 0;
  best : All (HasBest l.table l.in_port) l.classes;
  missed : (h : Header) → 0 < times l.left h → Misses l.table l.in_port h l.place-items l.place-index;
}
