-- A worker has as many own places as entries name it.
use Rattle.std.proofs.Common.{◌≡◌, ◌≢◌, ℕ, suc, ◌+◌, ◌<◌, ◌≤◌, ◌==◌, Bool, true, false, if◌then◌else◌, List, [], ◌∷◌, length, Some, slice_get, inl, inr, refl, ap, ◌∙◌, arith}
use Rattle.std.specs.List.{count_by}
use Rattle.std.proofs.lemmas.Bool.{cases_lt, eqb-true}
use Rattle.std.proofs.lemmas.Bool.Decides.{nat_tests}
use Rattle.std.proofs.lemmas.List.Sums.{sum_by-cons}
use Rattle.turn_book.proofs.Sums.{times_here}
use Rattle.turn_book.specs.Places.{one_if, times}

-- the list without a number
abbrev without : ℕ → List ℕ → List ℕ
without k [] = []
without k (x ∷ xs) = if x == k then without k xs else x ∷ without k xs

-- it is shorter by as often as the number stood there
length_without : (k : ℕ) (xs : List ℕ) → length xs ≡ times k xs + length (without k xs)
length_without k [] = refl
length_without k (x ∷ xs) = step (x == k) (length_without k xs) where
  step : (a : Bool) → length xs ≡ times k xs + length (without k xs) → length (x ∷ xs) ≡ (one_if a + times k xs) + length (if a then without k xs else x ∷ without k xs)
  step true rest = omega arith
  step false rest = omega arith

-- the number stands there no more
times_gone : (k : ℕ) (xs : List ℕ) → times k (without k xs) ≡ 0
times_gone k [] = refl
times_gone k (x ∷ xs) = step (x == k) refl (times_gone k xs) where
  step : (a : Bool) → (x == k) ≡ a → times k (without k xs) ≡ 0 → times k (if a then without k xs else x ∷ without k xs) ≡ 0
  step true e rest = rest
  step false e rest = let head : one_if (x == k) ≡ 0 = ap one_if e in omega arith

-- two numbers that differ
other : (p x : ℕ) → p ≢ x → one_if (x == p) ≡ 0
other p x apart = grind (arith, nat_tests)

-- and every other as often as before
times_kept : (k p : ℕ) (xs : List ℕ) → p ≢ k → times p (without k xs) ≡ times p xs
times_kept k p [] apart = refl
times_kept k p (x ∷ xs) apart = step (x == k) refl (times_kept k p xs apart) where
  step : (a : Bool) → (x == k) ≡ a → times p (without k xs) ≡ times p xs → times p (if a then without k xs else x ∷ without k xs) ≡ one_if (x == p) + times p xs
  step true e rest = let head : one_if (x == p) ≡ 0 = other p x (λ s. apart (s ∙ eqb-true x k e)) in omega arith
  step false e rest = ap (λ n. one_if (x == p) + n) rest

-- a list in which no number stands is empty
empty : (xs : List ℕ) → ((p : ℕ) → times p xs ≡ 0) → length xs ≡ 0
empty [] never = refl
empty (x ∷ xs) never = let here = never x in let there = times_here x in grind (arith, nat_tests)

module _ {E : Type 0} (mine : E → Bool) where
  one : (b : Bool) → (if b then 1 else 0) ≡ one_if b
  one true = refl
  one false = refl

  count_from : (k : ℕ) (log : List E) (places : List ℕ)
      → ((i : ℕ) (e : E) → slice_get log i ≡ Some e → times (k + i) places ≡ one_if (mine e))
      → ((p : ℕ) → p < k → times p places ≡ 0) → ((p : ℕ) → k + length log ≤ p → times p places ≡ 0)
      → length places ≡ count_by mine log
  count_from k [] places owned below above = empty places (λ p. outside p) where
    outside : (p : ℕ) → times p places ≡ 0
    outside p = elim (cases_lt p k) [ inl lt ↦ below p lt | inr ge ↦ above p (omega arith) ]
  count_from k (e ∷ log) places owned below above =
      let here = owned 0 e refl in
      let same : times (k + 0) places ≡ times k places = ap (λ n. times n places) (omega arith) in
      let cut = length_without k places in
      let gone = times_gone k places in
      let rest = count_from (k + 1) log (without k places)
      (λ i x there. times_kept k (k + 1 + i) places (λ s. omega arith) ∙ ap (λ n. times n places) (omega arith) ∙ owned (suc i) x there)
      (λ p lt. below_more p lt)
      (λ p le. times_kept k p places (λ s. omega arith) ∙ above p (omega arith)) in
      let first = one (mine e) in
      let sum : count_by mine (e ∷ log) ≡ (if mine e then 1 else 0) + count_by mine log = sum_by-cons (λ e. if mine e then 1 else 0) e log in
      omega arith where
        below_more : (p : ℕ) → p < k + 1 → times p (without k places) ≡ 0
        below_more p lt = elim (cases_lt p k) [
          | inl low ↦ times_kept k p places (λ s. omega arith) ∙ below p low
          | inr high ↦ let same : p ≡ k = omega arith in ap (λ n. times n (without k places)) same ∙ times_gone k places
        ]

  -- there are as many places as entries with the mark, where these are the places of just these entries
  pub own_count : (log : List E) (places : List ℕ)
      → ((place : ℕ) (e : E) → slice_get log place ≡ Some e → times place places ≡ one_if (mine e))
      → ((place : ℕ) → length log ≤ place → times place places ≡ 0)
      → length places ≡ count_by mine log
  own_count log places owned within = count_from 0 log places (λ i e there. ap (λ n. times n places) (omega arith) ∙ owned i e there) (λ p lt. absurd (omega arith)) (λ p le. within p (omega arith))
