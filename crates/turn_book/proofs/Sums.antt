-- Sums over all seats, and how often a number stands in a list.
use Rattle.std.proofs.Common.{◌≡◌, ◌≢◌, ℕ, zero, suc, ◌+◌, ◌<◌, ◌≤◌, List, [], ◌∷◌, ◌++◌, length, set, refl, ap, sym, ◌∙◌, arith, lt_of_not-le, length-append, append_assoc}
use Rattle.std.specs.List.{concat}
use Rattle.std.proofs.lemmas.Bool.Decides.{nat_tests}
use mathlib.Core.Option.{some, some-ne-none, some-injective}
use mathlib.Core.Logic.{dite}
use native.Mathlib.Decide.{dec_le}
use lib.ListN.{get_elem?}
use Rattle.turn_book.specs.Places.{times, once_between, numbers_from, Ascends, AllAscend, with_place, total, but_last, last_alone}

module _ {V : Type 0} (f : V → ℕ) where
  -- the sum after a change of one
  pub total_set : (views : List V) (id : ℕ) (v w : V) → get_elem? views id ≡ some v → total f (set views id w) + f v ≡ total f views + f w
  total_set [] id v w e = absurd (some-ne-none v (sym e))
  total_set (x ∷ xs) zero v w e = let same = ap f (some-injective x v e) in omega arith
  total_set (x ∷ xs) (suc id) v w e = let rest = total_set xs id v w e in omega arith

  pub total_snoc : (views : List V) (w : V) → total f (views ++ w ∷ []) ≡ total f views + f w
  total_snoc [] w = omega arith
  total_snoc (x ∷ xs) w = let rest = total_snoc xs w in omega arith

  pub total_at : (views : List V) (id : ℕ) (v : V) → get_elem? views id ≡ some v → f v ≤ total f views
  total_at [] id v e = absurd (some-ne-none v (sym e))
  total_at (x ∷ xs) zero v e = let same = ap f (some-injective x v e) in omega arith
  total_at (x ∷ xs) (suc id) v e = let rest = total_at xs id v e in omega arith

  pub total_two : (views : List V) (id other : ℕ) (v w : V) → id ≢ other → get_elem? views id ≡ some v → get_elem? views other ≡ some w → f v + f w ≤ total f views
  total_two [] id other v w apart e e' = absurd (some-ne-none v (sym e))
  total_two (x ∷ xs) zero zero v w apart e e' = absurd (apart refl)
  total_two (x ∷ xs) zero (suc other) v w apart e e' = let same = ap f (some-injective x v e) in let rest = total_at xs other w e' in omega arith
  total_two (x ∷ xs) (suc id) zero v w apart e e' = let same = ap f (some-injective x w e') in let rest = total_at xs id v e in omega arith
  total_two (x ∷ xs) (suc id) (suc other) v w apart e e' = let rest = total_two xs id other v w (λ s. apart (ap suc s)) e e' in omega arith

  pub total_none : (views : List V) → ((id : ℕ) (v : V) → get_elem? views id ≡ some v → f v ≡ 0) → total f views ≡ 0
  total_none [] none = refl
  total_none (x ∷ xs) none = let here = none zero x refl in let rest = total_none xs (λ id v e. none (suc id) v e) in omega arith

  -- where all others have nothing, the sum is that of the one
  pub total_one : (views : List V) (id : ℕ) (v : V) → get_elem? views id ≡ some v → ((other : ℕ) (w : V) → other ≢ id → get_elem? views other ≡ some w → f w ≡ 0) → total f views ≡ f v
  total_one [] id v e none = absurd (some-ne-none v (sym e))
  total_one (x ∷ xs) zero v e none =
      let same = ap f (some-injective x v e) in let rest = total_none xs (λ other w e'. none (suc other) w (λ s. omega arith) e') in omega arith
  total_one (x ∷ xs) (suc id) v e none =
      let here = none zero x (λ s. omega arith) refl in
      let rest = total_one xs id v e (λ other w apart e'. none (suc other) w (λ s. apart (omega arith)) e') in omega arith

-- two functions with the same values have the same sum
pub times-append : (x : ℕ) (xs ys : List ℕ) → times x (xs ++ ys) ≡ times x xs + times x ys
times-append x [] ys = omega arith
times-append x (y ∷ xs) ys = let rest = times-append x xs ys in omega arith

pub times_here : (x : ℕ) → times x (x ∷ []) ≡ 1
times_here x = grind (arith, nat_tests)

pub times_other : (x y : ℕ) → y ≢ x → times x (y ∷ []) ≡ 0
times_other x y apart = grind (arith, nat_tests)

pub concat-append : (xss yss : List (List ℕ)) → concat (xss ++ yss) ≡ concat xss ++ concat yss
concat-append [] yss = refl
concat-append (xs ∷ xss) yss = ap (λ l. xs ++ l) (concat-append xss yss) ∙ sym (append_assoc xs (concat xss) (concat yss))

-- a place that is added counts once more
pub times-with_place : (x place : ℕ) (own : List (List ℕ)) → times x (concat (with_place place own)) ≡ times x (concat own) + times x (place ∷ [])
times-with_place x place [] = omega arith
times-with_place x place (xs ∷ xss) =
    let a = times-append x (xs ++ place ∷ []) (concat xss) in let b = times-append x xs (place ∷ []) in let c = times-append x xs (concat xss) in omega arith

pub length-with_place : (place : ℕ) (own : List (List ℕ)) → length (concat (with_place place own)) ≡ length (concat own) + 1
length-with_place place [] = refl
length-with_place place (xs ∷ xss) =
    let a = length-append (xs ++ place ∷ []) (concat xss) in let b = length-append xs (place ∷ []) in let c = length-append xs (concat xss) in omega arith

pub between_in : (first end x : ℕ) → first ≤ x → x < end → once_between first end x ≡ 1
between_in first end x le l = grind (arith, nat_tests)

pub between_below : (first end x : ℕ) → x < first → once_between first end x ≡ 0
between_below first end x l = grind (arith, nat_tests)

pub between_above : (first end x : ℕ) → end ≤ x → once_between first end x ≡ 0
between_above first end x le = grind (arith, nat_tests)

-- one more number at the end
pub between_more : (first end x : ℕ) → first ≤ end → once_between first (end + 1) x ≡ once_between first end x + times x (end ∷ [])
between_more first end x le = grind (arith, nat_tests)

pub between_empty : (first x : ℕ) → once_between first first x ≡ 0
between_empty first x = grind (arith, nat_tests)

pub between_most : (first end x : ℕ) → once_between first end x ≤ 1
between_most first end x = grind (arith, nat_tests)

-- the numbers from the first on, each once
pub times-numbers_from : (x first n : ℕ) → times x (numbers_from first n) ≡ once_between first (first + n) x
unfolding numbers_from
times-numbers_from x first zero = sym (between_empty first x) ∙ ap (λ e. once_between first e x) (omega arith)
times-numbers_from x first (suc n) = let rest = times-numbers_from x (first + 1) n in grind (arith, nat_tests)

pub length-numbers_from : (first n : ℕ) → length (numbers_from first n) ≡ n
unfolding numbers_from
length-numbers_from first zero = refl
length-numbers_from first (suc n) = ap suc (length-numbers_from (first + 1) n)

-- a list ascends still with a number at its end that is above all
pub ascends_more : (xs : List ℕ) (n : ℕ) → Ascends xs → ((x : ℕ) → n ≤ x → times x xs ≡ 0) → Ascends (xs ++ n ∷ [])
ascends_more [] n up below = tt
ascends_more (x ∷ []) n up below = (below_end x n (below x), tt)
  where
    below_end : (x n : ℕ) → (n ≤ x → times x (x ∷ []) ≡ 0) → x < n
    below_end x n none = dite (dec_le n x) (λ le. let one = times_here x in let zero_times = none le in absurd (omega arith)) (λ other. lt_of_not-le other)
ascends_more (x ∷ y ∷ ys) n up below = (up.0, ascends_more (y ∷ ys) n up.1 (λ z le. let all = below z le in omega arith))

pub all_ascend_more : (own : List (List ℕ)) (n : ℕ) → AllAscend own → ((x : ℕ) → n ≤ x → times x (concat own) ≡ 0) → AllAscend (with_place n own)
all_ascend_more [] n up below = (tt, tt)
all_ascend_more (xs ∷ xss) n up below = (ascends_more xs n up.0 (λ x le. let all = below x le in let sum = times-append x xs (concat xss) in omega arith), up.1)

pub all_ascend-append : (xss yss : List (List ℕ)) → AllAscend xss → AllAscend yss → AllAscend (xss ++ yss)
all_ascend-append [] yss a b = b
all_ascend-append (xs ∷ xss) yss a b = (a.0, all_ascend-append xss yss a.1 b)

-- a list with an element is all but its last, and the last
pub halves : (xs : List ℕ) → but_last xs ++ last_alone xs ≡ xs
halves [] = refl
halves (x ∷ []) = refl
halves (x ∷ y ∷ ys) = ap (λ l. x ∷ l) (halves (y ∷ ys))

pub length-last_alone : (xs : List ℕ) → 0 < length xs → length (last_alone xs) ≡ 1
length-last_alone [] some_one = absurd (omega arith)
length-last_alone (x ∷ []) some_one = refl
length-last_alone (x ∷ y ∷ ys) some_one = length-last_alone (y ∷ ys) (omega arith)
