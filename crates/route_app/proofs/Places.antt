-- Places in ascending lists of numbers.
use Rattle.std.proofs.Common.{◌≡◌, ◌∙◌, ℕ, ◌+◌, ◌<◌, ◌≤◌, List, ◌∷◌, ◌++◌, Ok, Err, Contains, drop, get_or, length, nat_cmp, take, ap, arith, inl, inr, refl, sym, subst, zero, suc}
use Rattle.std.proofs.lemmas.Bool.{cases_eq, cases_lt}
use Rattle.std.proofs.lemmas.List.{get_or_default, take-append-drop}
use Rattle.std.proofs.lemmas.List.Edits.{get_or-insert_above, get_or-insert_at, get_or-insert_below, length-insert}
use Rattle.std.proofs.lemmas.List.Elements.{Contains-append_cases, Contains-append_left, Contains-append_right}
use Rattle.std.proofs.lemmas.List.Sorted.{searched}
use Rattle.std.specs.List.{insert}
use Rattle.std.specs.List.Sorted.{IsBinarySearchResult}
use Rattle.route_app.specs.Table.{Ascends}
use Rattle.route_app.proofs.Members.{contains_here, contains_there}

rising : (xs : List ℕ) → Ascends xs → (i j : ℕ) → i ≤ j → j < length xs → get_or xs i 0 ≤ get_or xs j 0
rising xs ascends i j low within =
    elim (cases_eq i j) [
      | inl same ↦ subst (λ (k : ℕ). get_or xs i 0 ≤ get_or xs k 0) same (omega arith)
      | inr apart ↦ let less = ascends i j (omega arith) within in omega arith
    ]

-- what a search finds
pub found : (xs : List ℕ) (s at : ℕ) → Ascends xs → IsBinarySearchResult (λ y. nat_cmp y s) xs (Ok at) → (at < length xs) × (get_or xs at 0 ≡ s)
found xs s at ascends is = searched xs s (Ok at) is (rising xs ascends)

-- where it finds nothing the number belongs between the lesser and the greater ones
pub record Belongs (xs : List ℕ) (s at : ℕ) : Type 0 where
  pub within : at ≤ length xs
  pub below : (k : ℕ) → k < at → get_or xs k 0 < s
  pub above : (k : ℕ) → at ≤ k → k < length xs → s < get_or xs k 0

pub belongs : (xs : List ℕ) (s at : ℕ) → Ascends xs → IsBinarySearchResult (λ y. nat_cmp y s) xs (Err at) → Belongs xs s at
belongs xs s at ascends is = let all = searched xs s (Err at) is (rising xs ascends) in record { within = all.0; below = all.1; above = all.2 }

pub absent : (xs : List ℕ) (s at : ℕ) → Belongs xs s at → Contains xs s → ⊥
absent xs s at between (k, within, is) =
    let value : get_or xs k 0 ≡ s = get_or_default xs k 0 s within ∙ is in
    elim (cases_lt k at) [ inl less ↦ let below = between.below k less in omega arith | inr more ↦ let above = between.above k more within in omega arith ]

-- ---- a number is put in

inserted_from : (xs : List ℕ) (s at : ℕ) → Ascends xs → Belongs xs s at → (i j : ℕ) → i ≤ j → j < length xs → at ≤ j → get_or (insert xs at s) (j + 1) 0 ≡ get_or xs j 0
    → get_or (insert xs at s) i 0 < get_or (insert xs at s) (j + 1) 0
inserted_from xs s at ascends between zero j low within later right =
    let fits = between.within in
    elim (cases_eq 0 at) [
      | inl same ↦
          let left : get_or (insert xs at s) 0 0 ≡ s = subst (λ (k : ℕ). get_or (insert xs at s) k 0 ≡ s) (sym same) (get_or-insert_at xs at s 0 fits) in
          let above = between.above j later within in
          omega arith
      | inr apart ↦
          let left : get_or (insert xs at s) 0 0 ≡ get_or xs 0 0 = get_or-insert_below xs at s 0 0 (omega arith) fits in
          let below = between.below 0 (omega arith) in
          let above = between.above j later within in
          omega arith
    ]
inserted_from xs s at ascends between (suc i) j low within later right =
    let fits = between.within in
    let above = between.above j later within in
    elim (cases_lt (suc i) at) [
      | inl less ↦
          let left : get_or (insert xs at s) (suc i) 0 ≡ get_or xs (suc i) 0 = get_or-insert_below xs at s 0 (suc i) less fits in
          let below = between.below (suc i) less in
          omega arith
      | inr more ↦ elim (cases_eq (suc i) at) [
        | inl same ↦
            let left : get_or (insert xs at s) (suc i) 0 ≡ s = subst (λ (k : ℕ). get_or (insert xs at s) k 0 ≡ s) (sym same) (get_or-insert_at xs at s 0 fits) in
            omega arith
        | inr apart ↦
            let step : suc i ≡ i + 1 = omega arith in
            let left : get_or (insert xs at s) (suc i) 0 ≡ get_or xs i 0 = ap (λ (k : ℕ). get_or (insert xs at s) k 0) step ∙ get_or-insert_above xs at s 0 i (omega arith) fits in
            let less = ascends i j (omega arith) within in
            omega arith
      ]
    ]

inserted_after : (xs : List ℕ) (s at : ℕ) → Ascends xs → Belongs xs s at → (i j : ℕ) → i < j → j < length xs + 1 → at < j → get_or (insert xs at s) i 0 < get_or (insert xs at s) j 0
inserted_after xs s at ascends between i zero less within later = absurd (omega arith)
inserted_after xs s at ascends between i (suc j) less within later =
    let fits = between.within in
    let right : get_or (insert xs at s) (j + 1) 0 ≡ get_or xs j 0 = get_or-insert_above xs at s 0 j (omega arith) fits in
    let same : suc j ≡ j + 1 = omega arith in
    subst (λ (k : ℕ). get_or (insert xs at s) i 0 < get_or (insert xs at s) k 0) (sym same) (inserted_from xs s at ascends between i j (omega arith) (omega arith) (omega arith) right)

inserted_before : (xs : List ℕ) (s at : ℕ) → Ascends xs → Belongs xs s at → (i j : ℕ) → i < j → j ≤ at → get_or (insert xs at s) i 0 < get_or (insert xs at s) j 0
inserted_before xs s at ascends between i j less low =
    let fits = between.within in
    let left : get_or (insert xs at s) i 0 ≡ get_or xs i 0 = get_or-insert_below xs at s 0 i (omega arith) fits in
    elim (cases_eq j at) [
      | inl same ↦
          let right : get_or (insert xs at s) j 0 ≡ s = subst (λ (k : ℕ). get_or (insert xs at s) k 0 ≡ s) (sym same) (get_or-insert_at xs at s 0 fits) in
          let below = between.below i (omega arith) in
          omega arith
      | inr apart ↦
          let right : get_or (insert xs at s) j 0 ≡ get_or xs j 0 = get_or-insert_below xs at s 0 j (omega arith) fits in
          let rises = ascends i j less (omega arith) in
          omega arith
    ]

pub ascends_inserted : (xs : List ℕ) (s at : ℕ) → Ascends xs → Belongs xs s at → Ascends (insert xs at s)
ascends_inserted xs s at ascends between i j less within =
    let long : length (insert xs at s) ≡ length xs + 1 = length-insert xs at s between.within in
    elim (cases_lt at j) [ inl later ↦ inserted_after xs s at ascends between i j less (omega arith) later | inr low ↦ inserted_before xs s at ascends between i j less low ]

pub inserted_there : (xs : List ℕ) (s at : ℕ) → Contains (insert xs at s) s
inserted_there xs s at = Contains-append_right (take at xs) (s ∷ drop at xs) s (contains_here s (drop at xs))

pub inserted_kept : (xs : List ℕ) (s at t : ℕ) → Contains xs t → Contains (insert xs at s) t
inserted_kept xs s at t there =
    let both : Contains (take at xs ++ drop at xs) t = subst (λ (ys : List ℕ). Contains ys t) (sym (take-append-drop at xs)) there in
    elim (Contains-append_cases (take at xs) (drop at xs) t both) [
      | inl before ↦ Contains-append_left (take at xs) (s ∷ drop at xs) t before
      | inr after ↦ Contains-append_right (take at xs) (s ∷ drop at xs) t (contains_there s (drop at xs) t after)
    ]

-- ---- how many there can be

-- an ascending list rises at least by one at each place
rises_by : (xs : List ℕ) → Ascends xs → (k : ℕ) → k < length xs → k ≤ get_or xs k 0
rises_by xs ascends zero within = omega arith
rises_by xs ascends (suc k) within = let before = rises_by xs ascends k (omega arith) in let step = ascends k (suc k) (omega arith) within in omega arith

few_of : (n : ℕ) (xs : List ℕ) (bound : ℕ) → length xs ≡ n → Ascends xs → ((k : ℕ) → k < length xs → get_or xs k 0 < bound) → n ≤ bound
few_of zero xs bound long ascends below = omega arith
few_of (suc n) xs bound long ascends below = let last = rises_by xs ascends n (omega arith) in let less = below n (omega arith) in omega arith

pub few_ascend : (xs : List ℕ) (bound : ℕ) → Ascends xs → ((k : ℕ) → k < length xs → get_or xs k 0 < bound) → length xs ≤ bound
few_ascend xs bound ascends below = few_of (length xs) xs bound refl ascends below
