-- The stop is the next one, or the next one is another for all headers.
use Rattle.std.proofs.Common.{◌≡◌, get_or, map, refl, subst, sym}
use Rattle.std.proofs.lemmas.Bool.{false≢true}
use Rattle.std.proofs.lemmas.List.{get_or_default}
use Rattle.invariant_check.specs.Search.{In}
use Rattle.invariant_check.specs.Stop.{node_at}
use Rattle.invariant_check.proofs.Known.{in_images, narrowed_then, no_stop, none_more}
use Rattle.invariant_check.proofs.search.is_among.Goals as goal

pub returns-then-is_same-clause-narrowed : goal.returns-then-is_same-clause-narrowed
returns-then-is_same-clause-narrowed c =
    narrowed_then c.args.class.now c.loop-other.class c.is_same.new.class c.inner_cells_are_parts.ensures.chain c.loop-other.invariant.narrowed c.is_same.ensures.narrowed

pub returns-then-is_same-clause-every : goal.returns-then-is_same-clause-every
returns-then-is_same-clause-every c = λ h inside. (
  λ e.
      let stops = c.args.stops.now in
      let i = c.loop-other.other-index in
      let at = get_or stops i no_stop in
      let same : node_at h c.args.stop.now ≡ node_at h at = (c.if-is_same.ensures.every h inside).0 refl in
      subst (λ (y : _). In y (map (node_at h) stops)) (sym same) (in_images (node_at h) stops i at c.loop-other-test.true (get_or_default stops i no_stop at c.loop-other-test.true)),
  λ i. refl,
)

pub loop-other-preserved : goal.loop-other-preserved
loop-other-preserved c =
    let stops = c.args.stops.now in
    let i = c.loop-other.other-index in
    let at = get_or stops i no_stop in
    record {
      narrowed = narrowed_then c.args.class.now c.loop-other.class c.is_same.new.class c.inner_cells_are_parts.ensures.chain c.loop-other.invariant.narrowed c.is_same.ensures.narrowed;
      none = none_more c.loop-other.class.cell c.is_same.new.class.cell (λ h. node_at h c.args.stop.now) node_at stops i at
          (λ h inside. c.inner_cells_are_parts.ensures.part c.loop-other.class.cell c.is_same.new.class.cell h c.is_same.ensures.narrowed.inner inside)
          c.loop-other-test.true (get_or_default stops i no_stop at c.loop-other-test.true) c.loop-other.invariant.none
          (λ h inside e. false≢true ((c.if-is_same.ensures.every h inside).1 e));
    }
