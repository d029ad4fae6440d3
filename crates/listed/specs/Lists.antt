-- Words on lists that the crates above share.
use Rattle.std.specs.Prelude.{◌≡◌, ℕ, List, [], ◌∷◌, length, map, slice_set, slice_get, All, Some, refl}
use Rattle.std.proofs.Common.{ap, subst, sym, ◌∙◌, zero, suc, ◌⊎◌, inl, inr}
use Rattle.std.proofs.lemmas.Option.{get_or_from_slice_get, slice_get_within}
use Rattle.std.proofs.lemmas.List.Elements.{All-nil, All-cons, All-head, All-tail, All-weaker}
use Rattle.std.proofs.lemmas.List.{length-map}
use Rattle.std.proofs.Math.ListN.{get_or-map}

-- The list with the element at a place put through a change, and each other element as it was. Past the end nothing changes.
abbrev pub changed_at : {A : Type 0} → ℕ → (A → A) → List A → List A
changed_at n f [] = []
changed_at zero f (x ∷ xs) = f x ∷ xs
changed_at (suc n) f (x ∷ xs) = x ∷ changed_at n f xs

-- writing back what stood there changes nothing
pub set_same : {A : Type 0} (xs : List A) (n : ℕ) (x : A) → slice_get xs n ≡ Some x → slice_set xs n x ≡ xs
set_same [] n x e = refl
set_same (y ∷ ys) zero x e = cc
set_same (y ∷ ys) (suc n) x e = ap (λ zs. y ∷ zs) (set_same ys n x e)

-- writing the changed element changes the list there
pub set_changed : {A : Type 0} (xs : List A) (n : ℕ) (f : A → A) (x y : A) → slice_get xs n ≡ Some x → y ≡ f x → slice_set xs n y ≡ changed_at n f xs
set_changed [] n f x y e h = refl
set_changed (z ∷ zs) zero f x y e h = let same : z ≡ x = cc in let step : y ≡ f z = h ∙ ap f (sym same) in ap (λ w. w ∷ zs) step
set_changed (z ∷ zs) (suc n) f x y e h = ap (λ ws. z ∷ ws) (set_changed zs n f x y e h)

-- where what stands at a place is replaced by what maps to the same, the list maps to the same
pub map_same : {A B : Type 0} (f : A → B) (xs : List A) (n : ℕ) (x y : A) → slice_get xs n ≡ Some x → f y ≡ f x → map f (slice_set xs n y) ≡ map f xs
map_same f [] n x y e h = refl
map_same f (z ∷ zs) zero x y e h = let same : z ≡ x = cc in let step : f y ≡ f z = h ∙ ap f (sym same) in ap (λ w. w ∷ map f zs) step
map_same f (z ∷ zs) (suc n) x y e h = ap (λ ws. f z ∷ ws) (map_same f zs n x y e h)

-- where what stands at a place is replaced by what maps to a change of it, the list maps to the change there
pub map_changed : {A B : Type 0} (f : A → B) (g : B → B) (xs : List A) (n : ℕ) (x y : A) → slice_get xs n ≡ Some x → f y ≡ g (f x) → map f (slice_set xs n y) ≡ changed_at n g (map f xs)
map_changed f g [] n x y e h = refl
map_changed f g (z ∷ zs) zero x y e h = let same : z ≡ x = cc in let step : f y ≡ g (f z) = h ∙ ap (λ w. g (f w)) (sym same) in ap (λ w. w ∷ map f zs) step
map_changed f g (z ∷ zs) (suc n) x y e h = ap (λ ws. f z ∷ ws) (map_changed f g zs n x y e h)

-- a change at a place keeps the length
pub length_changed : {A : Type 0} (n : ℕ) (f : A → A) (xs : List A) → length (changed_at n f xs) ≡ length xs
length_changed n f [] = refl
length_changed zero f (x ∷ xs) = refl
length_changed (suc n) f (x ∷ xs) = ap suc (length_changed n f xs)

-- what is mapped to the same by a change there maps to the same
pub map_unchanged : {A B : Type 0} (g : A → B) (n : ℕ) (f : A → A) (xs : List A) → ((x : A) → g (f x) ≡ g x) → map g (changed_at n f xs) ≡ map g xs
map_unchanged g n f [] h = refl
map_unchanged g zero f (x ∷ xs) h = ap (λ w. w ∷ map g xs) (h x)
map_unchanged g (suc n) f (x ∷ xs) h = ap (λ ws. g x ∷ ws) (map_unchanged g n f xs h)

-- what holds of each element holds of the one at a place
pub all_at : {A : Type 0} (P : A → Type 0) (xs : List A) (n : ℕ) (x : A) → All P xs → slice_get xs n ≡ Some x → P x
all_at P xs n x all e = subst P (get_or_from_slice_get xs n x x e) (all n x (slice_get_within xs n x e))

-- Where each element has a property, each has another one after a change if it follows, and if the changed element has it.
pub all_changed : {A : Type 0} (P Q : A → Type 0) (n : ℕ) (f : A → A) (xs : List A) → All P xs → ((x : A) → P x → Q x) → ((x : A) → slice_get xs n ≡ Some x → P x → Q (f x)) → All Q (changed_at n f xs)
all_changed P Q n f [] all keep change = All-nil Q
all_changed P Q zero f (x ∷ xs) all keep change = All-cons Q (f x) xs (change x refl (All-head P x xs all)) (All-weaker P Q keep xs (All-tail P x xs all))
all_changed P Q (suc n) f (x ∷ xs) all keep change = All-cons Q x (changed_at n f xs) (keep x (All-head P x xs all)) (all_changed P Q n f xs (All-tail P x xs all) keep change)

-- after a change at a place, what stands somewhere stood there before, or it is the changed element at that place
pub get_changed : {A : Type 0} (n : ℕ) (f : A → A) (xs : List A) (k : ℕ) (y : A) → slice_get (changed_at n f xs) k ≡ Some y → (slice_get xs k ≡ Some y) ⊎ ((k ≡ n) × ((x : A) × (slice_get xs k ≡ Some x) × (y ≡ f x)))
get_changed n f [] k y e = absurd cc
get_changed zero f (x ∷ xs) zero y e = inr (refl, (x, refl, cc))
get_changed zero f (x ∷ xs) (suc k) y e = inl e
get_changed (suc n) f (x ∷ xs) zero y e = inl e
get_changed (suc n) f (x ∷ xs) (suc k) y e = elim (get_changed n f xs k y e) [ inl h ↦ inl h | inr h ↦ inr (ap suc h.0, h.1) ]

-- what holds of each image holds of what each element maps to
pub all_unmapped : {A B : Type 0} (P : B → Type 0) (f : A → B) (xs : List A) → All P (map f xs) → All (λ x. P (f x)) xs
all_unmapped P f xs all k d lt = subst P (get_or-map f xs k d) (all k (f d) (rw length-map lt))
