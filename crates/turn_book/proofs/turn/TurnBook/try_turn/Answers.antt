use Rattle.std.proofs.Common.{ap, ◌∙◌, arith, refl, Some}
use Rattle.turn_book.proofs.Keeps.{looks, tries}
use Rattle.turn_book.proofs.Slots.{nil_of, matched, one_out}
use Rattle.turn_book.specs.Steps.{Wins}
use Rattle.turn_book.proofs.turn.TurnBook.try_turn.Goals as goal

pub load-looked-requires : goal.load-looked-requires
load-looked-requires g c = (c.requires.of.0, omega arith, looks _ _ _ _ _ _ _ _ c.requires.of.1 c.args.seat.free)

pub compare_exchange-found-requires : goal.compare_exchange-found-requires
compare_exchange-found-requires g c =
    let now = c.load-looked.ensures.2.0 in (
      c.load-looked.ensures.0 ∙ c.requires.of.0,
      omega arith,
      tries _ _ _ _ _ _ _ _ _ _ (ap (λ m. m.0.live) now ∙ c.requires.of.1) (ap (λ m. m.0.holds) now ∙ c.args.seat.free) (ap (λ m. m.1) now ∙ nil_of _ c.args.seat.empty) (omega arith) refl,
    )

pub exchange-requires : goal.exchange-requires
exchange-requires g c =
    let won : Wins g.B.Book.history g.B.Book.subject g.B.Book.mark c.load-looked.new.seat.me.0 c.compare_exchange-found.result c.compare_exchange-found.new.seat.me =
    matched _ _ _ _ c.if-found-looked.false c.compare_exchange-found.ensures.2 in (
      c.compare_exchange-found.ensures.0 ∙ c.load-looked.ensures.0 ∙ c.requires.of.0,
      (Some won.book, one_out _ _ (ap (λ m. m.1) won.now)),
    )
