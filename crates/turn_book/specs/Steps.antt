-- What each kind of atomic step does to the view of the seat that makes it, and what the step tells that seat.
use Rattle.std.specs.Prelude.{◌≡◌, ℕ, ◌+◌, ◌*◌, ◌%◌, ◌<◌, ◌≤◌, ◌==◌, true, false, List, [], ◌∷◌, ◌++◌, length, if◌then◌else◌, nat_lt, Option, Some, None, MatchBool}
use Rattle.std.specs.List.{concat}
use mathlib.Core.List.{IsPrefix}
use Rattle.atomic_table.specs.Table.{Me, Step}
use Rattle.atomic_table.specs.Seated.{TableId}
use Rattle.turn_book.specs.declared.view.View.{View}
use Rattle.turn_book.specs.Places.{times, once_between, numbers_from, has_slot, with_place, but_last, last_alone}
use Rattle.turn_book.specs.History.{IsMarked}

-- the longer of two lists, and of two as long the first
abbrev pub longer : {E : Type 0} → List E → List E → List E
longer xs ys = if nat_lt (length xs) (length ys) then ys else xs

-- and the other one
abbrev pub shorter : {E : Type 0} → List E → List E → List E
shorter xs ys = if nat_lt (length xs) (length ys) then xs else ys

module _ {E S : Type 0} where
  -- the first seat of a book that has this history and this subject
  abbrev pub opener : List E → S → View E S
  opener log subject = record { live = true; closed = false; marks = numbers_from 0 64; subject = Some subject; start = length log; seen = log; told = []; own = [] ∷ []; holds = false; last = 2 * length log; met = []; turns = 0 }

  -- a look, or an exchange that lost: it met this number
  abbrev pub having_met : ℕ → View E S → View E S
  having_met found v = record v { last = found; met = v.met ++ found ∷ [] }

  -- an exchange that won: it met this number, and this history
  abbrev pub won : ℕ → List E → View E S → View E S
  won found log v = record v { seen = log; holds = true; last = found + 1; met = v.met ++ found ∷ []; turns = v.turns + 1 }

  -- the turn was given back with this number, and nothing was added
  abbrev pub left : ℕ → View E S → View E S
  left given v = record v { holds = false; last = given }

  -- the turn was given back with this number and this history, whose last entry is the seat's own
  abbrev pub committed : ℕ → List E → View E S → View E S
  committed given log v = record v { seen = log; own = with_place (length v.seen) v.own; holds = false; last = given }

  -- the seat that was split, without its last mark
  abbrev pub parent : View E S → View E S
  parent v = record v { marks = but_last v.marks }

  -- the seat that a split made: the last mark, all that the other had seen, and no calls
  abbrev pub child : View E S → View E S
  child v = record { live = v.live; closed = false; marks = last_alone v.marks; subject = v.subject; start = v.start; seen = v.seen; told = []; own = [] ∷ []; holds = false; last = v.last; met = []; turns = 0 }

  -- the marks and the own calls of both, and the longer seen list
  abbrev pub both : View E S → View E S → View E S
  both v w = record v { marks = v.marks ++ w.marks; seen = longer v.seen w.seen; told = shorter v.seen w.seen; own = v.own ++ w.own; last = 2 * (v.start + length (concat (v.own ++ w.own))) }

  -- a seat that was joined away
  abbrev pub joined_away : View E S
  joined_away = record { live = false; closed = false; marks = []; subject = None; start = 0; seen = []; told = []; own = []; holds = false; last = 0; met = []; turns = 0 }

  -- a seat that was split or joined read the word once more
  abbrev pub noted : ℕ → View E S → View E S
  noted found v = record v { last = found }

  -- the seat that is handed back when its book is closed: it counts no more, and all that it knew stands
  abbrev pub ended : View E S → View E S
  ended v = record v { live = false; closed = true }

  -- what a seat learns of the word: with every share it knew the number, and nobody else has the turn
  pub record Learns (v : View E S) (found : ℕ) : Type 0 where
    pub all : length v.marks ≡ 64 → (found ≡ v.last) × (found % 2 ≡ 0)
    pub few : length v.marks ≤ 64
    pub room : 2 * (v.start + length (concat v.own)) ≤ found
    pub told : IsPrefix v.told v.seen

-- a seat's view, and the slot that it has out
abbrev pub Sat : Type 0 → Type 0 → Type 0 → Type 0
Sat B E S = Me (Option B) (View E S)

-- after each kind of step, `w`, the seat knows which entries are its own calls
module _ {B E S : Type 0} (mark : E → ℕ) where
  abbrev pub Misses : Sat B E S → ℕ → Sat B E S → Type 0
  Misses m found w = (w ≡ (having_met found m.0, m.1)) × Learns m.0 found × IsMarked mark w.0

  abbrev pub Looks : Step (Option B) → Sat B E S → ℕ → Sat B E S → Type 0
  Looks st m found w = Misses m found w

  abbrev pub Notes : Step (Option B) → Sat B E S → ℕ → Sat B E S → Type 0
  Notes st m found w = (w ≡ (noted found m.0, m.1)) × Learns m.0 found × IsMarked mark w.0

  abbrev pub Leaves : Step (Option B) → Sat B E S → ℕ → Sat B E S → Type 0
  Leaves st m given w = (w ≡ (left given m.0, [])) × IsMarked mark w.0

-- of the book that was put back
abbrev pub Commits : {B E S : Type 0} → (B → List E) → (E → ℕ) → Step (Option B) → Sat B E S → ℕ → Sat B E S → Type 0
Commits {B} history mark st m given w =
    (book : B) → m.1 ≡ (0, Some book) ∷ [] → (w ≡ (committed given (history book) m.0, [])) × IsMarked mark w.0

-- what the winner of a turn finds: the book, which begins with what the seat had seen, and in which it owns what carries its marks
pub record Wins {B E S : Type 0} (history : B → List E) (subject_of : B → S) (mark : E → ℕ) (v : View E S) (found : ℕ) (w : Sat B E S) : Type 0 where
  pub book : B
  pub now : w ≡ (won found (history book) v, (0, Some book) ∷ [])
  pub word : found ≡ 2 * length (history book)
  pub about : v.subject ≡ Some (subject_of book)
  pub begins : IsPrefix v.seen (history book)
  pub marked : IsMarked mark w.0
  pub room : v.start + length (concat v.own) ≤ length (history book)

abbrev pub Tries : {B E S : Type 0} → (B → List E) → (B → S) → (E → ℕ) → Step (Option B) → Sat B E S → ℕ → Sat B E S → Type 0
Tries history subject_of mark st m found w = MatchBool (found == st.first) (Wins history subject_of mark m.0 found w) (Misses mark m found w)

-- the book is what the seat saw, and all its entries past the opening are the seat's own calls, each once
pub record Whole {B E S : Type 0} (history : B → List E) (subject_of : B → S) (v : View E S) (book : B) : Type 0 where
  pub about : v.subject ≡ Some (subject_of book)
  pub whole : v.seen ≡ history book
  pub calls : v.start + length (concat v.own) ≡ length (history book)
  pub once : (place : ℕ) → times place (concat v.own) ≡ once_between v.start (length (history book)) place

-- what holds of the seat that has the turn, of the numbers beside it, and of the table
pub record Holding {B E S : Type 0} (table id : TableId) (m : Sat B E S) (word shares own : ℕ) : Type 0 where
  pub at : id ≡ table
  pub one_word : table.words ≡ 1
  pub holds : m.0.holds ≡ true
  pub live : m.0.live ≡ true
  pub slot : has_slot m.1 ≡ true
  pub some_mark : 0 < length m.0.marks
  pub shares_is : shares ≡ length m.0.marks
  pub word_is : word ≡ 2 * length m.0.seen
  pub own_is : own ≡ length (concat m.0.own)
  pub room : own ≤ length m.0.seen
