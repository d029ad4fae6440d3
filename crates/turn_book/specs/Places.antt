-- Lists of places and marks: how often a number stands in one, when one ascends, and sums over all seats.
use Rattle.std.proofs.Common.{arith, add-one, ap, ◌∙◌, refl}
use Rattle.std.specs.Prelude.{◌≡◌, ℕ, zero, suc, ◌+◌, ◌<◌, Bool, true, false, ◌==◌, ◌&&◌, List, [], ◌∷◌, ◌++◌, nat_lt, nat_le}

-- 1 where the answer is yes
abbrev pub one_if : Bool → ℕ
one_if true = 1
one_if false = 0

-- how often the number stands in the list
abbrev pub times : ℕ → List ℕ → ℕ
times x [] = 0
times x (y ∷ ys) = one_if (y == x) + times x ys

-- 1 for the numbers from the first up to the end, which is not among them, and 0 for all others
abbrev pub once_between : ℕ → ℕ → ℕ → ℕ
once_between first end x = one_if (nat_le first x && nat_lt x end)

-- the numbers from the first on, so many
unfoldable pub numbers_from : ℕ → ℕ → List ℕ
numbers_from first zero = []
numbers_from first (suc n) = first ∷ numbers_from (first + 1) n

-- each number is above the one before it
abbrev pub Ascends : List ℕ → Type 0
Ascends [] = Unit {0}
Ascends (x ∷ []) = Unit {0}
Ascends (x ∷ y ∷ ys) = (x < y) × Ascends (y ∷ ys)

-- each of the lists ascends
abbrev pub AllAscend : List (List ℕ) → Type 0
AllAscend [] = Unit {0}
AllAscend (xs ∷ xss) = Ascends xs × AllAscend xss

-- the place is put last in the first list
abbrev pub with_place : ℕ → List (List ℕ) → List (List ℕ)
with_place place [] = (place ∷ []) ∷ []
with_place place (xs ∷ xss) = (xs ++ place ∷ []) ∷ xss

-- f of each, added up
abbrev pub total : {V : Type 0} → (V → ℕ) → List V → ℕ
total f [] = 0
total f (v ∷ vs) = f v + total f vs

-- all but the last
abbrev pub but_last : List ℕ → List ℕ
but_last [] = []
but_last (x ∷ []) = []
but_last (x ∷ y ∷ ys) = x ∷ but_last (y ∷ ys)

-- the last alone
abbrev pub last_alone : List ℕ → List ℕ
last_alone [] = []
last_alone (x ∷ []) = x ∷ []
last_alone (x ∷ y ∷ ys) = last_alone (y ∷ ys)

-- the one slot is out, and no other
abbrev pub has_slot : {A : Type 0} → List (ℕ × A) → Bool
has_slot [] = false
has_slot (x ∷ []) = x.0 == 0
has_slot (x ∷ y ∷ ys) = false

last_of : (first n : ℕ) → last_alone (numbers_from first (suc n)) ≡ (first + n) ∷ []
unfolding numbers_from
last_of first zero = ap (λ (x : ℕ). x ∷ []) (omega arith)
last_of first (suc n) = last_of (first + 1) n ∙ ap (λ (x : ℕ). x ∷ []) (omega arith)

but_last_of : (first n : ℕ) → but_last (numbers_from first (suc n)) ≡ numbers_from first n
unfolding numbers_from
but_last_of first zero = refl
but_last_of first (suc n) = ap (λ (l : List ℕ). first ∷ l) (but_last_of (first + 1) n)

-- of the numbers below n + 1 the last is n
pub last_alone-numbers_from : (n : ℕ) → last_alone (numbers_from 0 (n + 1)) ≡ n ∷ []
last_alone-numbers_from n = ap (λ (k : ℕ). last_alone (numbers_from 0 k)) (add-one n) ∙ (last_of 0 n ∙ ap (λ (x : ℕ). x ∷ []) (omega arith))

-- and without it they are those below n
pub but_last-numbers_from : (n : ℕ) → but_last (numbers_from 0 (n + 1)) ≡ numbers_from 0 n
but_last-numbers_from n = ap (λ (k : ℕ). but_last (numbers_from 0 k)) (add-one n) ∙ but_last_of 0 n
