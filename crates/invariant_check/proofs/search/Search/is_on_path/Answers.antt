-- The stop is the next one, or the next one is another for all headers.
use Rattle.std.proofs.Common.{◌≡◌, ◌<◌, IsTrue, get_or, length, map, inr, refl, subst, sym}
use Rattle.std.proofs.lemmas.Bool.{false≢true}
use Rattle.of10_match.specs.declared.header.Header.{Header}
use Rattle.header_classes.specs.Cell.{in_cell}
use Rattle.invariant_check.specs.Search.{In}
use Rattle.invariant_check.specs.Stop.{node_at}
use Rattle.invariant_check.specs.declared.search.Frame.{Frame}
use Rattle.invariant_check.proofs.Known.{in_images, narrowed_then, none_more}
use Rattle.invariant_check.proofs.search.Search.is_on_path.Goals as goal

pub returns-then-is_same-2-clause-narrowed : goal.returns-then-is_same-2-clause-narrowed
returns-then-is_same-2-clause-narrowed c =
    narrowed_then c.args.class.now c.loop-frame.class c.is_same-in-loop-frame.new.class c.inner_cells_are_parts.ensures.chain c.loop-frame.invariant.narrowed
    c.is_same-in-loop-frame.ensures.narrowed

pub returns-then-is_same-2-clause-every : goal.returns-then-is_same-2-clause-every
returns-then-is_same-2-clause-every c = λ h inside. (
  λ e.
      let frames = c.args.self.now.below.items in
      let f = λ (frame : Frame). node_at h frame.stop in
      let within : c.loop-frame.frame-index < length frames = rw c.deref-frame-items.ensures.value at c.loop-frame-test.true in
      let is : c.frame-item.result ≡ get_or frames c.loop-frame.frame-index c.frame-item.result = rw c.deref-frame-items.ensures.value at c.frame-item.is in
      let same : node_at h c.args.stop.now ≡ node_at h c.frame-item.result.stop = (c.if-is_same-2.ensures.every h inside).0 refl in
      inr (subst (λ (y : _). In y (map f frames)) (sym same) (in_images f frames c.loop-frame.frame-index c.frame-item.result within is)),
  λ i. refl,
)

pub loop-frame-preserved : goal.loop-frame-preserved
loop-frame-preserved c =
    let frames = c.args.self.now.below.items in
    let within : c.loop-frame.frame-index < length frames = rw c.deref-frame-items.ensures.value at c.loop-frame-test.true in
    let is : c.frame-item.result ≡ get_or frames c.loop-frame.frame-index c.frame-item.result = rw c.deref-frame-items.ensures.value at c.frame-item.is in
    let part : (h : Header) → IsTrue (in_cell c.is_same-in-loop-frame.new.class.cell h) → IsTrue (in_cell c.loop-frame.class.cell h) = λ h inside. c.inner_cells_are_parts.ensures.part c.loop-frame.class.cell c.is_same-in-loop-frame.new.class.cell h c.is_same-in-loop-frame.ensures.narrowed.inner inside in
    record {
      narrowed = narrowed_then c.args.class.now c.loop-frame.class c.is_same-in-loop-frame.new.class c.inner_cells_are_parts.ensures.chain c.loop-frame.invariant.narrowed
          c.is_same-in-loop-frame.ensures.narrowed;
      top = λ h inside e. c.loop-frame.invariant.top h (part h inside) e;
      none = none_more c.loop-frame.class.cell c.is_same-in-loop-frame.new.class.cell (λ h. node_at h c.args.stop.now) (λ h frame. node_at h frame.stop) frames c.loop-frame.frame-index
          c.frame-item.result part within is c.loop-frame.invariant.none (λ h inside e. false≢true ((c.if-is_same-2.ensures.every h inside).1 e));
    }
