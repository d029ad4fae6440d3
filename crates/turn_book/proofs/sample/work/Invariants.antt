use Rattle.std.proofs.Common.{◌<◌}
use Rattle.turn_book.specs.Places.{times}
use Rattle.turn_book.specs.Words.{IsSeatOf, book_id, marks}
use Rattle.turn_book.proofs.sample.work.Given as goal

-- it is a seat of the book still, and has the mark
abbrev pub invariant-loop : goal.invariant-loop
invariant-loop l = IsSeatOf (book_id l.turns) l.seat × (0 < times l.mark (marks l.seat))
