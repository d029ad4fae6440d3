-- So far each header of the cells is in one of the two lists.
use Rattle.std.proofs.Common.{◌≡◌, cond, take}
use Rattle.of10_match.specs.Match.{takes}
use Rattle.of10_match.specs.declared.header.Header.{Header}
use Rattle.header_classes.specs.Cell.{times}
use Rattle.header_classes.proofs.partition.cut_each.Given as goal

abbrev pub invariant-loop-cell : goal.invariant-loop-cell
invariant-loop-cell l = record {
  taken : (h : Header) → times l.taken h ≡ cond (takes l.matches l.in_port h) (times (take l.cell-index l.cell-items) h) 0;
  rest : (h : Header) → times l.rest h ≡ cond (takes l.matches l.in_port h) 0 (times (take l.cell-index l.cell-items) h);
}
