use Rattle.std.proofs.Common.{◌≡◌, ◌-◌, [], ◌∷◌, length, All}
use Rattle.turn_book.specs.Places.{numbers_from}
use Rattle.turn_book.specs.Words.{IsSeatOf, book_id, marks, own}
use Rattle.turn_book.proofs.sample.deal_out.Given as goal

-- the seat has the marks that were not dealt
abbrev pub invariant-loop-dealt : goal.invariant-loop-dealt
invariant-loop-dealt l =
    IsSeatOf (book_id l.turns) l.seat × (marks l.seat ≡ numbers_from 0 (64 - l.dealt)) × (own l.seat ≡ [] ∷ []) × (length l.writers.items ≡ l.dealt) × All (λ writer. IsSeatOf (book_id l.turns) writer.seat) l.writers.items
