-- Delta debugging, as Zeller and Hildebrandt gave it in 2002, with the choices that they leave open: the parts follow one
-- another and the longer ones come first, the first part or complement that fails is taken, and a single element is left as it is.
use Rattle.std.specs.Prelude.{ℕ, ◌-◌, ◌*◌, ◌<◌, ◌≤◌, List, length, Bool, true, max, min}
use Rattle.std.specs.List.{remove}
use Rattle.input_atoms.specs.Cutting.{FirstFails, NoneFails, part_of, complement_of}

-- what is left of a list that is cut into so many parts
pub data IsReduced (test : List ℕ → Bool → Type 0) : List ℕ → ℕ → List ℕ → Type 0 where
  -- at most one element is left as it is
  small : (list : List ℕ) (parts : ℕ) → length list ≤ 1 → IsReduced test list parts list
  -- the first part that fails, cut in two
  to_part : (list part left : List ℕ) (parts : ℕ) → 1 < length list
      → FirstFails test (part_of list parts) parts part
      → IsReduced test part 2 left → IsReduced test list parts left
  -- else the first that fails of what the parts leave, cut into the parts that are left, or in two
  to_complement : (list complement left : List ℕ) (parts : ℕ) → 1 < length list
      → NoneFails test (part_of list parts) parts
      → FirstFails test (complement_of list parts) parts complement
      → IsReduced test complement (max (parts - 1) 2) left → IsReduced test list parts left
  -- else the same list in twice as many parts, or in single elements
  finer : (list left : List ℕ) (parts : ℕ) → 1 < length list
      → NoneFails test (part_of list parts) parts
      → NoneFails test (complement_of list parts) parts
      → parts < length list
      → IsReduced test list (min (length list) (2 * parts)) left → IsReduced test list parts left
  -- and where its parts are single elements already, the list
  single : (list : List ℕ) (parts : ℕ) → 1 < length list
      → NoneFails test (part_of list parts) parts
      → NoneFails test (complement_of list parts) parts
      → length list ≤ parts
      → IsReduced test list parts list

-- the list fails, and no longer without any one of its elements
pub record IsOneMinimal (test : List ℕ → Bool → Type 0) (list : List ℕ) : Type 0 where
  pub fails : test list true
  pub needed : NoneFails test (remove list) (length list)
