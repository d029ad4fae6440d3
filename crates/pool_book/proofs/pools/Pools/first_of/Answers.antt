use Rattle.std.proofs.Common.{◌∙◌, subst, sym}
use Rattle.pool_book.specs.Places.{Booked, marks}
use Rattle.pool_book.proofs.Waiting.{answer_first, answer_second, answer_third, answer_none, marked_within}
use Rattle.std.proofs.Common.{refl}
use Rattle.pool_book.proofs.pools.Pools.first_of.Goals as goal

pub head_at-requires : goal.head_at-requires
head_at-requires c = marked_within c.args.self.now (marks c.args.self.now) c.in-Some.number refl c.in-Some.ensures.2

pub returns-in-Some : goal.returns-in-Some
returns-in-Some c =
    let book = subst (λ pools. Booked c.self.inside.layout pools c.self.inside.waiting) c.self.view_is c.self.invariant in
    let r = c.reach-reach.result in
    c.head_at.ensures
    ∙ answer_first c.self.inside.layout c.args.self.now c.self.inside.waiting c.args.actor r.first.start r.first.end r.second.start r.second.end r.third.start r.third.end c.in-Some.number book c.reach-reach.ensures c.in-Some.ensures

pub head_at-requires-in-Some-first_within : goal.head_at-requires-in-Some-first_within
head_at-requires-in-Some-first_within c = marked_within c.args.self.now (marks c.args.self.now) c.in-Some-first_within.number refl c.in-Some-first_within.ensures.2

pub returns-in-Some-first_within : goal.returns-in-Some-first_within
returns-in-Some-first_within c =
    let book = subst (λ pools. Booked c.self.inside.layout pools c.self.inside.waiting) c.self.view_is c.self.invariant in
    let r = c.reach-reach.result in
    c.head_at-in-Some-first_within.ensures
    ∙ answer_second c.self.inside.layout c.args.self.now c.self.inside.waiting c.args.actor r.first.start r.first.end r.second.start r.second.end r.third.start r.third.end c.in-Some-first_within.number book c.reach-reach.ensures c.in_default.ensures c.in-Some-first_within.ensures

pub returns-in_err-number : goal.returns-in_err-number
returns-in_err-number c =
    let book = subst (λ pools. Booked c.self.inside.layout pools c.self.inside.waiting) c.self.view_is c.self.invariant in
    let r = c.reach-reach.result in
    c.from_residual.ensures
    ∙ sym (answer_none c.self.inside.layout c.args.self.now c.self.inside.waiting c.args.actor r.first.start r.first.end r.second.start r.second.end r.third.start r.third.end book c.reach-reach.ensures c.in_default.ensures c.in_default-first_within.ensures
    c.in_err-number.ensures)

pub head_at-requires-2 : goal.head_at-requires-2
head_at-requires-2 c = marked_within c.args.self.now (marks c.args.self.now) c.in_ok-number.number refl c.in_ok-number.ensures.2

pub returns : goal.returns
returns c =
    let book = subst (λ pools. Booked c.self.inside.layout pools c.self.inside.waiting) c.self.view_is c.self.invariant in
    let r = c.reach-reach.result in
    c.head_at-2.ensures
    ∙ answer_third c.self.inside.layout c.args.self.now c.self.inside.waiting c.args.actor r.first.start r.first.end r.second.start r.second.end r.third.start r.third.end c.in_ok-number.number book c.reach-reach.ensures c.in_default.ensures c.in_default-first_within.ensures c.in_ok-number.ensures
