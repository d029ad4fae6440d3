-- The slot that is out with a seat, and the answer of an exchange.
use Rattle.std.proofs.Common.{◌≡◌, ◌≢◌, eqb, ℕ, ◌==◌, Bool, true, false, true≢false, List, [], ◌∷◌, length, refl, ap, sym, ◌∙◌, subst, arith, ⊎_elim}
use Rattle.std.specs.Prelude.{MatchBool}
use Rattle.std.proofs.lemmas.Bool.Decides.{eqb_tells}
use Rattle.atomic_table.specs.Table.{rest}
use Rattle.turn_book.specs.Places.{has_slot}

pub equal_of : (a b : ℕ) → (a == b) ≡ true → a ≡ b
equal_of a b e = ⊎_elim (λ t. t.1) (λ f. absurd (true≢false (sym e ∙ f.0))) (eqb_tells a b)

pub nil_of : {A : Type 0} (xs : List A) → length xs ≡ 0 → xs ≡ []
nil_of [] e = refl
nil_of (x ∷ xs) e = absurd (omega arith)

pub out_slot : {A : Type 0} (xs : List (ℕ × A)) → has_slot xs ≡ true → (x : A) × (xs ≡ (0, x) ∷ rest xs)
out_slot [] e = absurd (true≢false (sym e))
out_slot (x ∷ []) e = (x.1, λ i. (equal_of x.0 0 e i, x.1) ∷ [])
out_slot (x ∷ y ∷ ys) e = absurd (true≢false (sym e))

pub out_rest : {A : Type 0} (xs : List (ℕ × A)) → has_slot xs ≡ true → rest xs ≡ []
out_rest [] e = absurd (true≢false (sym e))
out_rest (x ∷ []) e = refl
out_rest (x ∷ y ∷ ys) e = absurd (true≢false (sym e))

pub matched : (P Q : Type 0) (a b : ℕ) → a ≡ b → MatchBool (a == b) P Q → P
matched P Q a b e m = ⊎_elim (λ (t : (eqb a b ≡ true) × (a ≡ b)). subst (λ (x : Bool). MatchBool x P Q) t.0 m) (λ (f : (eqb a b ≡ false) × (a ≢ b)). absurd (f.1 e)) (eqb_tells a b)

pub missed : (P Q : Type 0) (a b : ℕ) → (a ≡ b → ⊥) → MatchBool (a == b) P Q → Q
missed P Q a b e m = ⊎_elim (λ (t : (eqb a b ≡ true) × (a ≡ b)). absurd (e t.1)) (λ (f : (eqb a b ≡ false) × (a ≢ b)). subst (λ (x : Bool). MatchBool x P Q) f.0 m) (eqb_tells a b)

pub one_out : {A : Type 0} (xs : List (ℕ × A)) (x : A) → xs ≡ (0, x) ∷ [] → xs ≡ (0, x) ∷ rest xs
one_out xs x e = e ∙ ap (λ r. (0, x) ∷ r) (sym (ap rest e))

-- what the slot holds is one value
pub slot_is : {A : Type 0} (xs : List (ℕ × A)) (x y : A) → xs ≡ (0, x) ∷ [] → xs ≡ (0, y) ∷ rest xs → x ≡ y
slot_is {A} xs x y a b = ap (first_or x) (sym a ∙ b)
  where
    first_or : A → List (ℕ × A) → A
    first_or z [] = z
    first_or z (w ∷ ws) = w.1
