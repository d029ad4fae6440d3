-- The rule of a turn book: one history that only grows, the word that counts it, and what each seat knows of it.
use Rattle.std.specs.Prelude.{◌≡◌, ℕ, ◌+◌, ◌*◌, ◌<◌, ◌≤◌, ◌⊎◌, true, false, List, [], ◌∷◌, length, if◌then◌else◌, Option, Some, None, slice_get, slice_index}
use Rattle.std.specs.List.{concat}
use mathlib.Core.List.{IsPrefix}
use mathlib.Core.Option.{some, none}
use lib.ListN.{get_elem?}
use Rattle.atomic_table.specs.Table.{State}
use Rattle.turn_book.specs.declared.view.View.{View}
use Rattle.turn_book.specs.Places.{times, once_between, AllAscend, total}

-- the marks that count: those of a live seat
abbrev pub marks_of : {E S : Type 0} → View E S → List ℕ
marks_of v = if v.live then v.marks else []

-- the own places that count: those of a live seat
abbrev pub places_of : {E S : Type 0} → View E S → List ℕ
places_of v = if v.live then concat v.own else []

-- past the opening, each place is among the own places as often as its entry's mark is among the marks
abbrev pub OwnsMarked : {E : Type 0} → (E → ℕ) → ℕ → List E → List ℕ → List (List ℕ) → Type 0
OwnsMarked {E} mark start log marks own = (place : ℕ) (e : E) → start ≤ place → slice_get log place ≡ Some e → times place (concat own) ≡ times (mark e) marks

-- What a seat knows of the history that it has seen: which entries are its own calls, that these lie past the opening and within
-- what it has seen, and that they ascend.
pub record IsMarked {E S : Type 0} (mark : E → ℕ) (v : View E S) : Type 0 where
  pub owned : OwnsMarked mark v.start v.seen v.marks v.own
  pub opening : v.start ≤ length v.seen
  pub past : (place : ℕ) → place < v.start → times place (concat v.own) ≡ 0
  pub within : (place : ℕ) → length v.seen ≤ place → times place (concat v.own) ≡ 0
  pub ascends : AllAscend v.own

-- what holds of a live seat, where `log` is the history, which had `start` entries at the opening
pub record Sits {E S : Type 0} (mark : E → ℕ) (start : ℕ) (subject : S) (log : List E) (v : View E S) : Type 0 where
  pub some_mark : 0 < length v.marks
  pub same_subject : v.subject ≡ Some subject
  pub same_start : v.start ≡ start
  pub seen_begins : IsPrefix v.seen log
  pub seen_start : start ≤ length v.seen
  pub told_begins : IsPrefix v.told v.seen
  pub own_seen : (place : ℕ) → length v.seen ≤ place → times place (concat v.own) ≡ 0
  pub own_ascends : AllAscend v.own
  pub own_marked : OwnsMarked mark start log v.marks v.own

-- a seat that was joined away has no marks, no own calls and no subject
pub record IsAway {E S : Type 0} (v : View E S) : Type 0 where
  pub no_marks : v.marks ≡ []
  pub no_calls : v.own ≡ []
  pub no_subject : v.subject ≡ None

-- what holds of all seats together: each mark below 64 and each place past the opening is one live seat's, once
pub record Seated {E S : Type 0} (mark : E → ℕ) (start : ℕ) (subject : S) (log : List E) (views : List (View E S)) : Type 0 where
  pub marks : (m : ℕ) → total (λ v. times m (marks_of v)) views ≡ once_between 0 64 m
  pub shares : total (λ v. length (marks_of v)) views ≡ 64
  pub places : (place : ℕ) → total (λ v. times place (places_of v)) views ≡ once_between start (length log) place
  pub calls : start + total (λ v. length (places_of v)) views ≡ length log
  pub each : (id : ℕ) (v : View E S) → get_elem? views id ≡ some v → v.live ≡ true → Sits mark start subject log v
  pub away : (id : ℕ) (v : View E S) → get_elem? views id ≡ some v → v.live ≡ false → v.closed ≡ false → IsAway v

-- nobody has the turn: the word is twice the history's length, and the book is at home, stands for the history and has the subject
pub record Free {B E S : Type 0} (history : B → List E) (subject_of : B → S) (subject : S) (log : List E) (s : State (Option B) (View E S)) : Type 0 where
  pub book : B
  pub word : s.words ≡ (2 * length log) ∷ []
  pub home : s.homes ≡ some (Some book) ∷ []
  pub stands : history book ≡ log
  pub about : subject_of book ≡ subject
  pub nobody : (id : ℕ) (v : View E S) → get_elem? s.views id ≡ some v → v.holds ≡ false

-- one live seat has the turn: the word is one more, and the history that this seat met is the whole
pub record Taken {B E S : Type 0} (log : List E) (s : State (Option B) (View E S)) : Type 0 where
  pub holder : ℕ
  pub view : View E S
  pub word : s.words ≡ (2 * length log + 1) ∷ []
  pub away : s.homes ≡ none ∷ []
  pub there : get_elem? s.views holder ≡ some view
  pub holds : view.holds ≡ true
  pub live : view.live ≡ true
  pub met : view.seen ≡ log
  pub alone : (id : ℕ) (v : View E S) → get_elem? s.views id ≡ some v → v.holds ≡ true → id ≡ holder

-- The shared history: it holds at every moment, of the views that are live. That the history only grows follows from
-- the seen lists, and what a seat counts as looks and turns is what the kinds of step say.
pub record Kept {B E S : Type 0} (history : B → List E) (subject_of : B → S) (mark : E → ℕ) (start : ℕ) (subject : S) (s : State (Option B) (View E S)) : Type 0 where
  pub log : List E
  pub seated : Seated mark start subject log s.views
  pub turn : Free history subject_of subject log s ⊎ Taken log s
  pub known : (id : ℕ) (v : View E S) → get_elem? s.views id ≡ some v → v.live ≡ true → length v.marks ≡ 64 → slice_index s.words 0 ≡ v.last
