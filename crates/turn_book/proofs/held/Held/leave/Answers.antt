use Rattle.std.proofs.Common.{◌*◌, ap, sym, ◌∙◌, arith, length}
use Rattle.turn_book.proofs.Keeps.{leaves}
use Rattle.turn_book.proofs.held.Held.leave.Goals as goal

pub store-requires : goal.store-requires
store-requires g c =
    let h = c.args.self.holding in
    let now = c.give_slot.ensures.slot in
    let seen = ap (λ m. m.0.seen) now in (
      c.give_slot.ensures.same.0 ∙ h.at,
      omega arith,
      leaves _ _ _ _ _ _ _ _ c.args.self.book _ (ap (λ m. m.0.live) now ∙ h.live) (ap (λ m. m.0.holds) now ∙ h.holds) (ap (λ m. m.1) now) (c.requires.same ∙ sym seen) (ap (λ m. m.0.subject) now ∙ c.requires.about) (h.word_is ∙ ap (λ s. 2 * length s) (sym seen)),
    )
