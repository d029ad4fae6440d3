-- The parts of a list, and which of several lists fails first. A test tells of lists whether they fail, as a relation: one that gives
-- true of a list says that it fails, and one that gives false that it does not.
use Rattle.std.specs.Prelude.{◌≡◌, ℕ, ◌+◌, ◌*◌, ◌/◌, ◌%◌, ◌<◌, ◌↔◌, List, ◌++◌, length, take, drop, Bool, true, false, min}
use Rattle.std.specs.List.{slice_range}

-- Where a part begins: of size elements each part has size / parts, and each of the first (size mod parts) has one more.
unfoldable pub begin_of : ℕ → ℕ → ℕ → ℕ
begin_of size parts part = part * (size / parts) + min part (size % parts)

-- a part of a list that is cut into so many
abbrev pub part_of : List ℕ → ℕ → ℕ → List ℕ
part_of list parts part = slice_range list (begin_of (length list) parts part) (begin_of (length list) parts (part + 1))

-- the list without that part
abbrev pub complement_of : List ℕ → ℕ → ℕ → List ℕ
complement_of list parts part = take (begin_of (length list) parts part) list ++ drop (begin_of (length list) parts (part + 1)) list

-- two tests give the same of each list
abbrev pub AreAlike : (List ℕ → Bool → Type 0) → (List ℕ → Bool → Type 0) → Type 0
AreAlike one other = (list : List ℕ) (failed : Bool) → one list failed ↔ other list failed

-- none of so many lists fails
abbrev pub NoneFails : (List ℕ → Bool → Type 0) → (ℕ → List ℕ) → ℕ → Type 0
NoneFails test lists count = (k : ℕ) → k < count → test (lists k) false

-- the list is the first of so many that fails
pub record FirstFails (test : List ℕ → Bool → Type 0) (lists : ℕ → List ℕ) (count : ℕ) (list : List ℕ) : Type 0 where
  pub place : ℕ
  pub within : place < count
  pub stands : list ≡ lists place
  pub fails : test list true
  pub first : NoneFails test lists place
