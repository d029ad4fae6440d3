use Rattle.std.proofs.Common.{◌<◌, ◌++◌, ℕ, List, ◌∷◌, [], subst, ap, sym, ◌∙◌, arith, length}
use Rattle.turn_book.proofs.Keeps.{commits}
use Rattle.turn_book.specs.Places.{times}
use Rattle.turn_book.proofs.held.Held.commit.Goals as goal

pub store-requires : goal.store-requires
store-requires g c =
    let h = c.args.self.holding in
    let now = c.give_slot.ensures.slot in
    let seen = ap (λ m. m.0.seen) now in
    let long = ap length seen in
    let word = h.word_is in (
      c.give_slot.ensures.same.0 ∙ h.at,
      omega arith,
      commits _ _ _ _ _ _ _ _ c.args.self.book c.requires.grew.0 _ (ap (λ m. m.0.live) now ∙ h.live) (ap (λ m. m.0.holds) now ∙ h.holds) (ap (λ m. m.1) now) (c.requires.grew.1 ∙ ap (λ l. l ++ c.requires.grew.0 ∷ []) (sym seen)) (subst (λ (l : List ℕ). 0 < times (g.B.Book.mark c.requires.grew.0) l) (sym (ap (λ m. m.0.marks) now)) c.requires.grew.2) (ap (λ m. m.0.subject) now ∙ c.requires.about) (omega arith),
    )
