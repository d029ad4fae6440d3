use Rattle.std.proofs.Common.{length, All}
use Rattle.turn_book.specs.Words.{IsSeatOf, book_id}
use Rattle.turn_book.proofs.sample.gather.Given as goal

abbrev pub invariant-loop-writer : goal.invariant-loop-writer
invariant-loop-writer l = IsSeatOf (book_id l.turns) l.seat × All (λ writer. IsSeatOf (book_id l.turns) writer.seat) l.writers.items

abbrev pub decreases-loop-writer : goal.decreases-loop-writer
decreases-loop-writer l = length l.writers.items
