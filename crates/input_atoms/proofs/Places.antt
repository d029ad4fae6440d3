-- Where the parts of a list begin, and how long they are.
use Rattle.std.proofs.Common.{◌≡◌, ℕ, ◌+◌, ◌-◌, ◌/◌, ◌<◌, ◌≤◌, zero, suc, List, length, arith, length-take, length-drop, length-append, add-one, append-nil}
use Rattle.input_atoms.specs.Cutting.{begin_of, part_of, complement_of}
use Rattle.std.specs.List.{remove}
use Rattle.std.proofs.Math.Nat.{div_self, mod_self, mul-le-mul_right, sub-zero, le-div_iff_mul-le}
use Rattle.std.proofs.lemmas.List.{take_rest, drop_all}

pub begin_rises : (size parts part : ℕ) → begin_of size parts part ≤ begin_of size parts (part + 1)
unfolding begin_of
begin_rises size parts part = omega arith

-- of parts of which none is empty, each begins at least one place after the one before it
begin_more : (size parts part : ℕ) → 0 < parts → parts ≤ size → begin_of size parts part + 1 ≤ begin_of size parts (part + 1)
unfolding begin_of
begin_more size parts part some full = let one : 1 ≤ size / parts = (le-div_iff_mul-le some).1 (omega arith) in omega arith

-- the part after the last one would begin at the end
begin_last : (size parts : ℕ) → 0 < parts → begin_of size parts parts ≡ size
unfolding begin_of
begin_last size parts some = omega arith

pub begin_within : (size parts part : ℕ) → 0 < parts → part ≤ parts → begin_of size parts part ≤ size
unfolding begin_of
begin_within size parts part some within = omega (arith, mul-le-mul_right (size / parts) within)

-- single elements
begin_single : (size part : ℕ) → 0 < size → begin_of size size part ≡ part
unfolding begin_of
begin_single size part some = rw (div_self some, mod_self size) (omega arith)

begin_first : (size parts : ℕ) → begin_of size parts 0 ≡ 0
unfolding begin_of
begin_first size parts = omega arith

-- of two parts, what the first leaves is the second, and the other way round
pub complement_first : (list : List ℕ) → complement_of list 2 0 ≡ part_of list 2 1
complement_first list = rw (begin_first (length list) 2, begin_last (length list) 2 (omega arith), take_rest list (begin_of (length list) 2 1))

pub complement_second : (list : List ℕ) → complement_of list 2 1 ≡ part_of list 2 0
complement_second list = rw (begin_first (length list) 2, begin_last (length list) 2 (omega arith), drop_all (length list) list (omega arith), append-nil, sub-zero)

-- there is room for the parts before one
begin_after : (size parts part : ℕ) → 0 < parts → parts ≤ size → part ≤ begin_of size parts part
begin_after size parts zero some full = omega arith
begin_after size parts (suc part) some full = rw (← add-one part) (omega (arith, begin_after size parts part some full, begin_more size parts part some full))

-- there is room for so many parts from one on
begin_before : (size parts part count : ℕ) → 0 < parts → parts ≤ size → part + count ≡ parts → begin_of size parts part + count ≤ size
begin_before size parts part zero some full e = let same : part ≡ parts = omega arith in rw same (omega (arith, begin_last size parts some))
begin_before size parts part (suc count) some full e = omega (arith, begin_before size parts (part + 1) count some full (omega arith), begin_more size parts part some full)

module _ (list : List ℕ) (parts part : ℕ) (two : 2 ≤ parts) (full : parts ≤ length list) (within : part < parts) where
  -- a part is shorter than the list
  pub part_shorter : length (part_of list parts part) < length list
  part_shorter = simp (length-take, length-drop) (omega (arith, begin_after (length list) parts part (omega arith) full, begin_before (length list) parts (part + 1) (parts - (part + 1)) (omega arith) full (omega arith)))

  -- so is the list without a part
  pub complement_shorter : length (complement_of list parts part) < length list
  complement_shorter = simp (length-append, length-take, length-drop) (omega (arith, begin_more (length list) parts part (omega arith) full, begin_within (length list) parts (part + 1) (omega arith) (omega arith)))

  -- and it can be cut into one part fewer
  pub complement_full : parts ≤ length (complement_of list parts part) + 1
  complement_full = simp (length-append, length-take, length-drop) (omega (arith, begin_after (length list) parts part (omega arith) full, begin_before (length list) parts (part + 1) (parts - (part + 1)) (omega arith) full (omega arith), begin_within (length list) parts part (omega arith) (omega arith)))

-- what a part that is a single element leaves
pub complement_single : (list : List ℕ) (parts part : ℕ) → parts ≡ length list → part < length list → complement_of list parts part ≡ remove list part
complement_single list parts part e within = let some : 0 < length list = omega arith in rw (e, begin_single (length list) part some, begin_single (length list) (part + 1) some, add-one part)
