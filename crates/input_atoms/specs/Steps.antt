-- How a reduction comes nearer to its end.
use Rattle.std.specs.Prelude.{ℕ, ◌+◌, ◌-◌, ◌*◌, ◌^◌, ◌<◌, ◌≤◌, ◌⊎◌, List, length, Bool}
use Rattle.input_atoms.specs.Ddmin.{IsReduced}

-- a list that can be cut into so many parts, at least two and none of them empty, or that is not cut any more
pub record IsCut (list : List ℕ) (parts : ℕ) : Type 0 where
  pub some : 2 ≤ parts
  pub none_empty : (length list ≤ 1) ⊎ (parts ≤ length list)

-- such a list of fewer than 2^32 elements
pub record IsInParts (list : List ℕ) (parts : ℕ) : Type 0 where
  pub fits : length list < 2 ^ 32
  pub cut : IsCut list parts

-- how far the reduction is from its end: a shorter list is nearer, and of one length the one in more parts
abbrev pub work : List ℕ → ℕ → ℕ
work list parts = length list * 2 ^ 32 + (length list - parts)

-- what is left of the second list is what is left of the first, which is farther from the end
pub record GoesOn (test : List ℕ → Bool → Type 0) (list : List ℕ) (parts : ℕ) (next : List ℕ) (next_parts : ℕ) : Type 0 where
  pub cut : IsInParts next next_parts
  pub nearer : work next next_parts < work list parts
  pub back : (left : List ℕ) → IsReduced test next next_parts left → IsReduced test list parts left
