-- A list that is longer by one element.
use Rattle.std.proofs.Common.{◌≡◌, ◌∙◌, ℕ, ◌+◌, ◌<◌, ◌⊎◌, zero, suc, List, [], ◌∷◌, ◌++◌, length, take, slice_get, Some, ap, ap₂, arith, inl, inr, refl, sym}
use Rattle.std.proofs.lemmas.List.{take_all, take-append-le, take_more}
use Rattle.std.proofs.lemmas.Option.{get_or_from_slice_get, same_Some, slice_get_within}
use Rattle.pool_book.specs.Blocks.{which_part}

-- an element stands in the front, or is the last
pub pushed : {A : Type 0} (xs : List A) (last : A) (at : ℕ) (x : A) → slice_get (xs ++ last ∷ []) at ≡ Some x → ((slice_get xs at ≡ Some x) × (at < length xs)) ⊎ ((at ≡ length xs) × (last ≡ x))
pushed xs last at x there = elim (which_part xs (last ∷ []) (length xs) at x refl there) [
  | inl here ↦ inl (here, slice_get_within xs at x here)
  | inr (zero, e, here) ↦ inr (omega arith, same_Some last x here)
  | inr (suc j, e, here) ↦ absurd cc
]

-- what stands before an element of the front
pub front_of_front : {A : Type 0} (xs : List A) (last : A) (at : ℕ) → at < length xs → take at (xs ++ last ∷ []) ≡ take at xs
front_of_front xs last at below = take-append-le at xs (last ∷ []) (omega arith)

-- and before the last one
pub front_of_last : {A : Type 0} (xs : List A) (last : A) (at : ℕ) → at ≡ length xs → take at (xs ++ last ∷ []) ≡ xs
front_of_last xs last at e = take-append-le at xs (last ∷ []) (omega arith) ∙ take_all at xs (omega arith)

-- the front that is longer by one
pub taken_on : {A : Type 0} (xs : List A) (at : ℕ) (x : A) → slice_get xs at ≡ Some x → take (at + 1) xs ≡ take at xs ++ x ∷ []
taken_on xs at x here = take_more xs at x (slice_get_within xs at x here) ∙ ap (λ last. take at xs ++ last ∷ []) (get_or_from_slice_get xs at x x here)

-- two lists that are the same up to a place, and have the same element there, are the same up to the next place
pub took_more : {A : Type 0} (xs ys : List A) (at : ℕ) (x y : A) → slice_get xs at ≡ Some x → slice_get ys at ≡ Some y → take at xs ≡ take at ys → x ≡ y → take (suc at) xs ≡ take (suc at) ys
took_more {A} xs ys at x y here there fronts same =
    let next : suc at ≡ at + 1 = omega arith in
    ap (λ n. take n xs) next ∙ taken_on xs at x here ∙ ap₂ (λ (front : List A) (z : A). front ++ z ∷ []) fronts same ∙ sym (taken_on ys at y there) ∙ ap (λ n. take n ys) (sym next)
