-- Parts and complements keep the order of a list, and have its elements alone.
use Rattle.std.proofs.Common.{◌≡◌, ℕ, Bool, ◌+◌, ◌-◌, ◌<◌, ◌≤◌, List, ◌++◌, length, take, drop, All, AllPairs, get_or, inl, inr, arith, length-take, length-drop, length-append, refl, get_or-take, get_or-drop, min}
use Rattle.std.specs.List.{range_with_len}
use Rattle.std.proofs.lemmas.Bool.{cases_lt}
use Rattle.std.proofs.lemmas.List.{get_or_append_left, get_or-append_right}
use Rattle.std.proofs.lemmas.List.FromFn.{length-range_with_len, get_or-range_with_len}
use Rattle.std.proofs.lemmas.List.Elements.{All-append, All-drop, All-take}
use Rattle.input_atoms.specs.Cutting.{begin_of}
use Rattle.input_atoms.specs.Ddmin.{IsReduced}
use Rattle.input_atoms.proofs.Minimal.{kept}
use Rattle.input_atoms.proofs.Places.{begin_rises}

module _ (R : ℕ → ℕ → Type 0) (xs : List ℕ) (pairs : AllPairs R xs) where
  pairs_between : (from count : ℕ) → AllPairs R (take count (drop from xs))
  pairs_between from count i j d order within =
      let size : j < min count (length xs - from) = simp (length-take, length-drop) at within in
      let there : j < count = omega arith in
      let here : i < count = omega arith in
      rw (get_or-take count (drop from xs) i d here, get_or-take count (drop from xs) j d there, get_or-drop from xs i d, get_or-drop from xs j d)
      (pairs (from + i) (from + j) d (omega arith) (omega arith))

  -- where an element of the list without a part stood
  stood : (from to : ℕ) → from ≤ to → (i d : ℕ) → i < length (take from xs ++ drop to xs)
      → (at : ℕ) × (at < length xs) × (get_or (take from xs ++ drop to xs) i d ≡ get_or xs at d) × ((i < from → at ≡ i) × (from ≤ i → at + from ≡ i + to))
  stood from to ordered i d within =
      let size : i < min from (length xs) + (length xs - to) = simp (length-append, length-take, length-drop) at within in
      elim (cases_lt i from) [
        | inl before ↦
            let kept : i < length (take from xs) = simp length-take (omega arith) in
            (i, omega arith, rw (get_or_append_left (take from xs) (drop to xs) d i kept, get_or-take from xs i d before), (λ h. refl, λ h. absurd (omega arith)))
        | inr after ↦
            let whole : length (take from xs) ≡ from = simp length-take (omega arith) in
            (to + (i - from), omega arith, rw (get_or-append_right (take from xs) (drop to xs) from i d whole after, get_or-drop to xs (i - from) d), (λ h. absurd (omega arith), λ h. omega arith))
      ]

  pairs_around : (from to : ℕ) → from ≤ to → AllPairs R (take from xs ++ drop to xs)
  pairs_around from to ordered i j d order within =
      let one = stood from to ordered i d (omega arith) in
      let other = stood from to ordered j d within in
      let further : one.0 < other.0 = elim (cases_lt i from) [
        | inl left ↦ elim (cases_lt j from) [ inl also ↦ omega (arith, one.3.0 left, other.3.0 also) | inr right ↦ omega (arith, one.3.0 left, other.3.1 right) ]
        | inr right ↦ omega (arith, one.3.1 right, other.3.1 (omega arith))
      ] in
      rw (one.2, other.2) (pairs one.0 other.0 d further other.1)

all_below : (n : ℕ) → All (λ k. k < n) (range_with_len 0 n)
all_below n k d within = let here : k < n = rw length-range_with_len at within in rw (get_or-range_with_len 0 n k d here) (omega arith)

ascending : (n : ℕ) → AllPairs (λ one other. one < other) (range_with_len 0 n)
ascending n i j d order within =
    let there : j < n = rw length-range_with_len at within in
    let here : i < n = omega arith in
    rw (get_or-range_with_len 0 n i d here, get_or-range_with_len 0 n j d there) (omega arith)

pub ascends : (test : List ℕ → Bool → Type 0) (n : ℕ) (left : List ℕ) → IsReduced test (range_with_len 0 n) 2 left → AllPairs (λ one other. one < other) left
ascends test n left reduced = kept (λ list. AllPairs (λ one other. one < other) list) (λ list parts k pairs. pairs_between (λ one other. one < other) list pairs (begin_of (length list) parts k) (begin_of (length list) parts (k + 1) - begin_of (length list) parts k))
    (λ list parts k pairs. pairs_around (λ one other. one < other) list pairs (begin_of (length list) parts k) (begin_of (length list) parts (k + 1)) (begin_rises (length list) parts k)) reduced (ascending n)

pub among : (test : List ℕ → Bool → Type 0) (n : ℕ) (left : List ℕ) → IsReduced test (range_with_len 0 n) 2 left → All (λ k. k < n) left
among test n left reduced = kept (λ list. All (λ k. k < n) list)
    (λ list parts k all. All-take (λ k. k < n) (begin_of (length list) parts (k + 1) - begin_of (length list) parts k) (drop (begin_of (length list) parts k) list) (All-drop (λ k. k < n) (begin_of (length list) parts k) list all))
    (λ list parts k all. All-append (λ k. k < n) (take (begin_of (length list) parts k) list) (drop (begin_of (length list) parts (k + 1)) list) (All-take (λ k. k < n) (begin_of (length list) parts k) list all) (All-drop (λ k. k < n) (begin_of (length list) parts (k + 1)) list all))
    reduced (all_below n)
