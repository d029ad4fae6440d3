use Rattle.std.proofs.Common.{◌∙◌, Some, None, ap, arith}
use Rattle.number_set.specs.Numbers.{first_from}
use Rattle.number_set.proofs.Search.{found, in_later_word, in_no_word, in_this_word, in_word, marked_some, marked_within, past_the_words}
use Rattle.number_set.proofs.set.NumberSet.first_from.Goals as goal

pub returns-then-at-len : goal.returns-then-at-len
returns-then-at-len c = found _ _ _ _ None c.self.invariant (past_the_words _ _ (omega arith)) ∙ ap (first_from c.args.from) c.self.view_is

pub returns-in-Some : goal.returns-in-Some
returns-in-Some c =
    let here = in_word c.self.inside.words.items _ _ _ (Some c.in-Some.bit) (omega arith) c.index.ensures c.in-Some.ensures in
    found _ _ _ _ _ c.self.invariant (in_this_word _ c.args.from c.in-Some.bit here) ∙ ap (first_from c.args.from) c.self.view_is

pub returns-in_err-next : goal.returns-in_err-next
returns-in_err-next c =
    let here = in_word c.self.inside.words.items _ _ _ None (omega arith) c.index.ensures c.in_default.ensures in
    c.from_residual.ensures ∙ found _ _ _ _ None c.self.invariant (in_no_word _ _ _ c.args.from c.self.invariant here c.in_err-next.ensures) ∙ ap (first_from c.args.from) c.self.view_is

pub returns-in_err-bit : goal.returns-in_err-bit
returns-in_err-bit c =
    let within = marked_within _ _ _ _ c.self.invariant c.in_ok-next.ensures.1 c.in_ok-next.ensures.2 in
    let none = in_word c.self.inside.words.items _ _ _ None within c.index-2.ensures c.in_err-bit.ensures in
    absurd (marked_some _ _ _ _ c.self.invariant c.in_ok-next.ensures.1 c.in_ok-next.ensures.2 none)

pub returns : goal.returns
returns c =
    let within = marked_within _ _ _ _ c.self.invariant c.in_ok-next.ensures.1 c.in_ok-next.ensures.2 in
    let here = in_word c.self.inside.words.items _ _ _ None (omega arith) c.index.ensures c.in_default.ensures in
    let there = in_word c.self.inside.words.items _ _ _ (Some c.in_ok-bit.bit) within c.index-2.ensures c.in_ok-bit.ensures in
    found _ _ _ _ _ c.self.invariant (in_later_word _ _ _ c.args.from c.in_ok-next.next c.in_ok-bit.bit c.self.invariant here c.in_ok-next.ensures there) ∙ ap (first_from c.args.from) c.self.view_is
