use Rattle.std.proofs.Common.{◌≡◌, ◌∙◌, ap, arith, subst, sym}
use Rattle.number_set.specs.Numbers.{first_from}
use Rattle.pool_book.specs.Places.{FirstWithin, marks}
use Rattle.pool_book.proofs.Waiting.{within_none, within_past, within_some}
use Rattle.pool_book.proofs.pools.Pools.first_within.Goals as goal

pub returns-in_err-number : goal.returns-in_err-number
returns-in_err-number c =
    let e : marks c.args.self.now ≡ c.self.inside.waiting = sym (c.self.invariant.marked ∙ ap marks c.self.view_is) in
    subst (FirstWithin c.args.span.start c.args.span.end (marks c.args.self.now)) (sym c.from_residual.ensures)
    (within_none (marks c.args.self.now) c.args.span.start c.args.span.end (ap (first_from c.args.span.start) e ∙ sym c.first_from.ensures ∙ c.in_err-number.was))

pub returns-then-number-span : goal.returns-then-number-span
returns-then-number-span c =
    let e : marks c.args.self.now ≡ c.self.inside.waiting = sym (c.self.invariant.marked ∙ ap marks c.self.view_is) in
    within_past (marks c.args.self.now) c.args.span.start c.args.span.end c.in_ok-number.number (ap (first_from c.args.span.start) e ∙ sym c.first_from.ensures ∙ c.in_ok-number.was) (omega arith)

pub returns : goal.returns
returns c =
    let e : marks c.args.self.now ≡ c.self.inside.waiting = sym (c.self.invariant.marked ∙ ap marks c.self.view_is) in
    within_some (marks c.args.self.now) c.args.span.start c.args.span.end c.in_ok-number.number (ap (first_from c.args.span.start) e ∙ sym c.first_from.ensures ∙ c.in_ok-number.was) (omega arith)
