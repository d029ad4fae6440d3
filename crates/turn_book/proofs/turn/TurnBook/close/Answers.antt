use Rattle.std.proofs.Common.{ap, arith}
use Rattle.turn_book.proofs.Keeps.{endings, closes_taken, closes_whole}
use Rattle.turn_book.proofs.turn.TurnBook.close.Goals as goal

pub split_seat-spare-requires : goal.split_seat-spare-requires
split_seat-spare-requires g c = (c.requires.of.0, omega arith, endings _ _ _ _ _ _ _ c.requires.of.1 c.args.seat.free)

pub unreachable-requires : goal.unreachable-requires
unreachable-requires g c =
    let it = closes_taken _ _ _ _ _ _ c.args.seat.token.me.0 _ _ _ _ (ap (λ m. m.0) c.split_seat-spare.ensures.2) c.requires.of.1 c.args.seat.free c.requires.all c.close_with-closed.ensures.values.2 c.take.ensures.value in
    c.in_default.not-Some it.0 it.1

pub returns-clause-book : goal.returns-clause-book
returns-clause-book g c =
    closes_whole _ _ _ _ _ _ _ _ _ _ _ (ap (λ m. m.0) c.split_seat-spare.ensures.2) c.requires.of.1 c.args.seat.free c.requires.all c.close_with-closed.ensures.values.2 c.take.ensures.value c.in-Some.book c.in-Some.is
