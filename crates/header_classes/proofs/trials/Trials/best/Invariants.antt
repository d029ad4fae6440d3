-- So far no entry takes a header of the cell, which is a part of what the first one left.
use Rattle.std.proofs.Common.{IsTrue}
use Rattle.std.specs.List.{AllZip}
use Rattle.of10_match.specs.declared.header.Header.{Header}
use Rattle.header_classes.specs.Cell.{in_cell}
use Rattle.header_classes.specs.Interval.{IsInner}
use Rattle.header_classes.proofs.Firsts.{AreMissed}
use Rattle.header_classes.proofs.trials.Trials.best.Given as goal

abbrev pub invariant-loop-at : goal.invariant-loop-at
invariant-loop-at l = record {
  inside : IsTrue (in_cell l.cell l.header);
  inner : AllZip IsInner l.initial.cell l.cell;
  missed : (h : Header) → IsTrue (in_cell l.cell h) → AreMissed l.in_port h l.self.trials.items l.at;
}
