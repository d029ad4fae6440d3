-- Two ways to cut a stream are one, and what was taken first begins what is taken later.
use Rattle.of10_view.proofs.Stream.{cut_later, cut_once}
use Rattle.of10_view.proofs.laws.pieces_do_not_matter.Goals as goal

pub returns-clause-begins : goal.returns-clause-begins
returns-clause-begins c = λ stream more messages others held kept cut cut' drained.
    let later = cut_later c.what_is_not_refused.ensures.parts stream more messages others held kept cut cut' drained in (later.rest, later.later)

pub returns-clause-same : goal.returns-clause-same
returns-clause-same c = cut_once c.what_is_not_refused.ensures.parts
