-- The words in which contracts speak of a seat, and of a turn that is held.
use Rattle.std.specs.Prelude.{◌≡◌, ◌≢◌, ℕ, ◌*◌, ◌%◌, ◌<◌, ◌⊎◌, true, List, length, Some, slice_get}
use Rattle.std.specs.List.{concat}
use mathlib.Core.List.{IsPrefix}
use Rattle.atomic_table.specs.Seated.{TableId}
use Rattle.turn_book.specs.declared.seat.Seat.{Seat}
use Rattle.turn_book.specs.declared.held.Held.{Held}
use Rattle.turn_book.specs.declared.turn.TurnBook.{TurnBook}
use Rattle.turn_book.specs.declared.turn.Turned.{Turned}
use Rattle.turn_book.specs.declared.turn.Turned.TheVariants.{Mine, Busy}
use Rattle.turn_book.specs.declared.view.View.{View}
use Rattle.turn_book.specs.Places.{times, last_alone}
use Rattle.turn_book.specs.History.{IsMarked}
use Rattle.turn_book.specs.Steps.{having_met, won, noted, both}

module _ {B E S : Type 0} where
  -- what the seat knows
  abbrev pub view_of : Seat B E S → View E S
  view_of seat = seat.token.me.0

  -- its marks, whose number is its shares
  abbrev pub marks : Seat B E S → List ℕ
  marks seat = (view_of seat).marks

  -- the beginning of the history that it has seen
  abbrev pub seen : Seat B E S → List E
  seen seat = (view_of seat).seen

  -- the places of its own calls, a list for each seat that was joined into it
  abbrev pub own : Seat B E S → List (List ℕ)
  own seat = (view_of seat).own

  -- the numbers that its looks met
  abbrev pub met : Seat B E S → List ℕ
  met seat = (view_of seat).met

  -- how often it looked at the word
  abbrev pub looks : Seat B E S → ℕ
  looks seat = length (met seat)

  -- how many turns it won
  abbrev pub turns : Seat B E S → ℕ
  turns seat = (view_of seat).turns

  -- a seat of the book with this identity
  abbrev pub IsSeatOf : TableId → Seat B E S → Type 0
  IsSeatOf id seat = (seat.token.table_id ≡ id) × ((view_of seat).live ≡ true)

  -- which book it is
  abbrev pub book_id : TurnBook B E S → TableId
  book_id book = book.table.shared.table_id

  -- the book of a turn
  abbrev pub held_book : Held B E S → B
  held_book held = held.book

  -- what the seat knows that has the turn
  abbrev pub held_view : Held B E S → View E S
  held_view held = held.token.me.0

  -- which book the turn is of
  abbrev pub held_id : Held B E S → TableId
  held_id held = held.token.table_id

  -- the turn, with another value in the place of the book
  abbrev pub with_book : Held B E S → B → Held B E S
  with_book held book = record held { book = book }

module _ {E S : Type 0} where
  -- no call of the seat carries its last mark
  abbrev pub LastMarkIsFree : (E → ℕ) → View E S → Type 0
  LastMarkIsFree mark v = (place : ℕ) (e : E) → 0 < times place (concat v.own) → slice_get v.seen place ≡ Some e → times (mark e) (last_alone v.marks) ≡ 0

  -- the two are one, and it learnt some number of the word
  abbrev pub IsJoined : View E S → View E S → View E S → Type 0
  IsJoined v w joined = (now : ℕ) × (joined ≡ noted now (both v w))

  -- a seat that a split made, which learnt some number of the word
  abbrev pub IsNoted : View E S → View E S → Type 0
  IsNoted v w = (now : ℕ) × (w ≡ noted now v)

  -- the turn was not won: the first look met an odd number, so another had the turn; or it met an even one, and the exchange met another number
  abbrev pub IsBusy : View E S → View E S → ℕ → ℕ → Type 0
  IsBusy v w looked found =
      ((looked % 2 ≡ 1) × (found ≡ looked) × (w ≡ having_met looked v))
      ⊎ ((looked % 2 ≡ 0) × (found ≢ looked) × (w ≡ having_met found (having_met looked v)))

-- the turn was won by two looks at one number, and the book is what the seat may trust
pub record IsWon {B E S : Type 0} (history : B → List E) (subject_of : B → S) (mark : E → ℕ) (v : View E S) (w : View E S) (book : B) : Type 0 where
  pub view : w ≡ won (2 * length (history book)) (history book) (having_met (2 * length (history book)) v)
  pub about : v.subject ≡ Some (subject_of book)
  pub begins : IsPrefix v.seen (history book)
  pub marked : IsMarked mark w

-- the turn was won
abbrev pub IfMine : {B E S : Type 0} → Turned B E S → (Held B E S → Type 0) → Type 0
IfMine (Mine held) P = P held
IfMine (Busy seat looked found) P = Unit {0}

-- the turn was not won
abbrev pub IfBusy : {B E S : Type 0} → Turned B E S → (Seat B E S → ℕ → ℕ → Type 0) → Type 0
IfBusy (Mine held) P = Unit {0}
IfBusy (Busy seat looked found) P = P seat looked found
