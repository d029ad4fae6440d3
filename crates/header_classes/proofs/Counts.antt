-- Counts of the elements that pass a test, and that each passes alone.
use Rattle.std.proofs.Common.{◌≡◌, ◌∙◌, ◌+◌, ◌<◌, ◌≤◌, ◌&&◌, ◌||◌, ℕ, suc, Bool, true, false, AllPairs, List, [], ◌∷◌, length, get_or, take, cond, count_by, inl, inr, refl, ap, arith}
use Rattle.std.proofs.lemmas.Bool.{cases_Bool}
use Rattle.std.proofs.lemmas.List.{get_or-take, length-take-le}
use Rattle.std.proofs.lemmas.List.Folds.{list_any_none}
use Rattle.std.proofs.lemmas.List.Sums.{get_or-le-sum_by, sum_by-cons, sum_by_more_le}
use Rattle.std.specs.List.{list_any}

-- one element more
counted : {X : Type 0} (p : X → Bool) (x : X) (xs : List X) (b : Bool) → p x ≡ b → count_by p (x ∷ xs) ≡ cond b 1 0 + count_by p xs
counted p x xs b is = sum_by-cons (λ y. cond (p y) 1 0) x xs ∙ ap (λ (c : Bool). cond c 1 0 + count_by p xs) is

-- two elements that pass are two in the count
pub two_counted : {X : Type 0} (p : X → Bool) (xs : List X) (i j : ℕ) (d : X) → i < j → j < length xs → p (get_or xs i d) ≡ true → p (get_or xs j d) ≡ true → 2 ≤ count_by p xs
two_counted p xs i j d less within first second =
    let all = sum_by_more_le (λ x. cond (p x) 1 0) xs j d within in
    let front : i < length (take j xs) = rw (length-take-le j xs (omega arith)) less in
    let before = get_or-le-sum_by (λ x. cond (p x) 1 0) (take j xs) i d front in
    let one : cond {A = ℕ} (p (get_or (take j xs) i d)) 1 0 ≡ 1 = ap (λ x. cond (p x) 1 0) (get_or-take j xs i d less) ∙ ap (λ (b : Bool). cond b 1 0) first in
    let other : cond {A = ℕ} (p (get_or xs j d)) 1 0 ≡ 1 = ap (λ (b : Bool). cond b 1 0) second in
    omega (arith, all, before, one, other)

-- where no two elements pass, one is counted exactly where one passes
pub one_counted : {X : Type 0} (p : X → Bool) (xs : List X) → AllPairs (λ x y. (p x && p y) ≡ false) xs → count_by p xs ≡ cond (list_any p xs) 1 0
one_counted p [] alone = refl
one_counted p (x ∷ xs) alone =
    let rest = one_counted p xs (λ i j d less within. alone (suc i) (suc j) d (omega arith) (omega arith)) in
    elim (cases_Bool (p x)) [
      | inl passes ↦
          let none = list_any_none p xs (λ k d within. let pair = alone 0 (suc k) d (omega arith) (omega arith) in rw passes at pair) in
          let zero_rest : count_by p xs ≡ 0 = rest ∙ ap (λ (b : Bool). cond b 1 0) none in
          let one : cond {A = ℕ} (p x || list_any p xs) 1 0 ≡ 1 = ap (λ (b : Bool). cond (b || list_any p xs) 1 0) passes in
          let all = counted p x xs true passes in
          omega (arith, all, zero_rest, one)
      | inr fails ↦
          let same : cond {A = ℕ} (p x || list_any p xs) 1 0 ≡ cond (list_any p xs) 1 0 = ap (λ (b : Bool). cond (b || list_any p xs) 1 0) fails in
          let all = counted p x xs false fails in
          omega (arith, all, rest, same)
    ]

-- one passes exactly where the count is not zero
pub any_counted : {X : Type 0} (p : X → Bool) (xs : List X) (b : Bool) → count_by p xs ≡ cond b 1 0 → list_any p xs ≡ b
any_counted p [] true is = absurd (omega (arith, is))
any_counted p [] false is = refl
any_counted p (x ∷ xs) true is = elim (cases_Bool (p x)) [
  | inl passes ↦ rw passes refl
  | inr fails ↦ let all = counted p x xs false fails in rw fails (any_counted p xs true (omega (arith, all, is)))
]
any_counted p (x ∷ xs) false is = elim (cases_Bool (p x)) [
  | inl passes ↦ let all = counted p x xs true passes in absurd (omega (arith, all, is))
  | inr fails ↦ let all = counted p x xs false fails in rw fails (any_counted p xs false (omega (arith, all, is)))
]
