-- A turn keeps what the search knows, and what it finds is what is asked.
use Rattle.invariant_check.proofs.explore.explore.Goals as goal

pub loop-search-init : goal.loop-search-init
loop-search-init c = record {
  narrowed = c.start.ensures.narrowed;
  held = c.in_ok-search.ensures.held;
  at = λ h inside. c.in_ok-search.ensures.at c.args.invariant.now h;
}
