-- The class is narrower than it was, and for none of its headers the stop is the last one or one of those so far.
use Rattle.std.proofs.Common.{◌≡◌, IsTrue, map, take}
use Rattle.of10_match.specs.declared.header.Header.{Header}
use Rattle.header_classes.specs.Cell.{in_cell}
use Rattle.invariant_check.specs.Class.{IsNarrowed}
use Rattle.invariant_check.specs.Search.{In}
use Rattle.invariant_check.specs.Stop.{node_at}
use Rattle.invariant_check.proofs.search.Search.is_on_path.Given as goal

abbrev pub invariant-loop-frame : goal.invariant-loop-frame
invariant-loop-frame l = record {
  narrowed : IsNarrowed l.fn.class l.class;
  top : (h : Header) → IsTrue (in_cell l.class.cell h) → node_at h l.stop ≡ node_at h l.self.top.stop → ⊥;
  none : (h : Header) → IsTrue (in_cell l.class.cell h) → In (node_at h l.stop) (map (λ frame. node_at h frame.stop) (take l.frame-index l.self.below.items)) → ⊥;
}
