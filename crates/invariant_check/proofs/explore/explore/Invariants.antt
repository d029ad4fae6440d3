-- The class is narrower than it was, and the search knows what it knows of each header of it.
use Rattle.std.proofs.Common.{IsTrue}
use Rattle.of10_match.specs.declared.header.Header.{Header}
use Rattle.header_classes.specs.Cell.{in_cell}
use Rattle.invariant_check.specs.Class.{IsNarrowed}
use Rattle.invariant_check.specs.Turn.{IsHeld, SearchAt, weight}
use Rattle.invariant_check.proofs.explore.explore.Given as goal

abbrev pub invariant-loop-search : goal.invariant-loop-search
invariant-loop-search l = record {
  narrowed : IsNarrowed l.fn.class l.class;
  held : IsHeld l.net l.class.cell l.search;
  at : (h : Header) → IsTrue (in_cell l.class.cell h) → SearchAt l.net l.invariant' h (record { s = l.s; p = l.p; header = h }) l.search;
}

abbrev pub decreases-loop-search : goal.decreases-loop-search
decreases-loop-search l = weight l.search
