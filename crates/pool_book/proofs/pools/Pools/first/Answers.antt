use Rattle.std.proofs.Common.{◌≡◌, ◌∙◌, None, length, slice_get, subst, sym}
use Rattle.std.specs.Prelude.{option_and_then, ◌<◌}
use Rattle.number_set.specs.Numbers.{first_from_some}
use Rattle.pool_book.specs.Places.{head_name}
use Rattle.pool_book.specs.Pools.{first_waiting, queues}
use Rattle.pool_book.proofs.Waiting.{first_is, first_none, marked_within}
use Rattle.pool_book.proofs.pools.Pools.first.Goals as goal

pub returns-in_err-number : goal.returns-in_err-number
returns-in_err-number c =
    c.from_residual.ensures
    ∙ sym (subst (λ pools. first_waiting (queues pools) ≡ None) c.self.view_is (first_none c.self.inside.pools c.self.inside.waiting c.self.invariant.marked (sym c.first_from.ensures ∙ c.in_err-number.was)))

pub head_at-requires : goal.head_at-requires
head_at-requires c =
    let at = first_from_some 0 c.self.inside.waiting c.in_ok-number.number (sym c.first_from.ensures ∙ c.in_ok-number.was) in
    subst (λ pools. c.in_ok-number.number < length pools) c.self.view_is (marked_within c.self.inside.pools c.self.inside.waiting c.in_ok-number.number c.self.invariant.marked at.1)

pub returns : goal.returns
returns c =
    c.head_at.ensures
    ∙ subst (λ pools. option_and_then head_name (slice_get (queues pools) c.in_ok-number.number) ≡ first_waiting (queues pools)) c.self.view_is
    (first_is c.self.inside.pools c.self.inside.waiting c.in_ok-number.number c.self.invariant.marked (sym c.first_from.ensures ∙ c.in_ok-number.was))
