-- The class is narrower than it was, and for none of its headers the stop is one of those so far.
use Rattle.std.proofs.Common.{IsTrue, map, take}
use Rattle.of10_match.specs.declared.header.Header.{Header}
use Rattle.header_classes.specs.Cell.{in_cell}
use Rattle.invariant_check.specs.Class.{IsNarrowed}
use Rattle.invariant_check.specs.Search.{In}
use Rattle.invariant_check.specs.Stop.{node_at}
use Rattle.invariant_check.proofs.search.is_among.Given as goal

abbrev pub invariant-loop-other : goal.invariant-loop-other
invariant-loop-other l = record {
  narrowed : IsNarrowed l.fn.class l.class;
  none : (h : Header) → IsTrue (in_cell l.class.cell h) → In (node_at h l.stop) (map (node_at h) (take l.other-index l.stops)) → ⊥;
}
