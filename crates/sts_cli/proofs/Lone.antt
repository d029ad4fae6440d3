-- Lists of one word.
use Rattle.std.proofs.Common.{◌≡◌, ◌<◌, ◌≤◌, List, [], ◌∷◌, length, get_or, ap, arith}

-- a list whose length is one has its first element alone
pub alone : {A : Type 0} (xs : List A) (x : A) → 1 ≤ length xs → length xs < 2 → x ≡ get_or xs 0 x → xs ≡ x ∷ []
alone [] x low high e = absurd (omega arith)
alone (y ∷ []) x low high e = ap (λ z. z ∷ []) (cc)
alone (y ∷ z ∷ zs) x low high e = absurd (omega arith)

-- lists of one element are equal where the elements are
pub alone_equal : {A : Type 0} (x y : A) → (x ∷ []) ≡ (y ∷ []) → x ≡ y
alone_equal x y e = cc
