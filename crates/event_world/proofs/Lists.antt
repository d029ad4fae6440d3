-- Lists and options, whatever they hold.
use Rattle.std.proofs.Common.{◌≡◌, ◌↔◌, ◌⊎◌, ℕ, ◌+◌, ◌≤◌, List, [], ◌∷◌, length, filter_map, flat_map, slice_get, slice_set, zero, suc, Option, Some, None, option_map, All, ap, arith, inl, inr, refl, sym}
use Rattle.std.specs.Prelude.{IsSome}
use Rattle.std.specs.List.{cons_option}
use Rattle.std.proofs.lemmas.List.Elements.{All-append, All-cons, All-head, All-nil, All-tail}
use Rattle.std.proofs.lemmas.Option.{same_Some}

-- ---- options

-- an option that is something
pub some_is : {A : Type 0} (o : Option A) → IsSome o → (a : A) × (o ≡ Some a)
some_is None some = absurd cc
some_is (Some a) some = (a, refl)

-- its image is something too, and that of no other option is
pub some_image : {A B : Type 0} (f : A → B) (o : Option A) → IsSome (option_map f o) ↔ IsSome o
some_image f None = (λ some. some, λ some. some)
some_image f (Some a) = (λ some. refl, λ some. refl)

-- ---- what a filter gives

all_more : {Y : Type 0} (Q : Y → Type 0) (o : Option Y) (ys : List Y) → ((y : Y) → o ≡ Some y → Q y) → All Q ys → All Q (cons_option o ys)
all_more Q None ys first rest = rest
all_more Q (Some y) ys first rest = All-cons Q y ys (first y refl) rest

-- what follows of all that a function gives holds of each thing that it gave
pub all_given : {X Y : Type 0} (P : X → Type 0) (Q : Y → Type 0) (h : X → Option Y) (xs : List X) → All P xs → ((x : X) (y : Y) → P x → h x ≡ Some y → Q y) → All Q (filter_map h xs)
all_given P Q h [] all gives = All-nil Q
all_given P Q h (x ∷ xs) all gives = all_more Q (h x) (filter_map h xs) (λ y e. gives x y (All-head P x xs all) e) (all_given P Q h xs (All-tail P x xs all) gives)

length_more : {Y : Type 0} (o : Option Y) (ys : List Y) → length (cons_option o ys) ≤ 1 + length ys
length_more None ys = omega arith
length_more (Some y) ys = omega arith

-- a function gives at most one thing for each
pub length_given : {X Y : Type 0} (h : X → Option Y) (xs : List X) → length (filter_map h xs) ≤ length xs
length_given h [] = omega arith
length_given h (x ∷ xs) = let rest = length_given h xs in let more = length_more (h x) (filter_map h xs) in omega arith

-- ---- what is joined and what is written

-- what holds of each element of each list holds of each of them all
pub all_joined : {X Y : Type 0} (P : Y → Type 0) (f : X → List Y) (xs : List X) → All (λ x. All P (f x)) xs → All P (flat_map f xs)
all_joined P f [] all = All-nil P
all_joined {X = X} P f (x ∷ xs) all = All-append P (f x) (flat_map f xs) (All-head (λ (x : X). All P (f x)) x xs all) (all_joined P f xs (All-tail (λ (x : X). All P (f x)) x xs all))

-- after a write, what stands somewhere stood there before, or it was written in the place of something
pub get_set : {A : Type 0} (xs : List A) (n : ℕ) (new : A) (k : ℕ) (x : A) → slice_get (slice_set xs n new) k ≡ Some x → (slice_get xs k ≡ Some x) ⊎ ((k ≡ n) × (x ≡ new) × ((old : A) × (slice_get xs k ≡ Some old)))
get_set [] n new k x e = inl e
get_set (y ∷ ys) zero new zero x e = inr (refl, sym (same_Some new x e), (y, refl))
get_set (y ∷ ys) zero new (suc k) x e = inl e
get_set (y ∷ ys) (suc n) new zero x e = inl e
get_set (y ∷ ys) (suc n) new (suc k) x e = elim (get_set ys n new k x e) [ inl h ↦ inl h | inr h ↦ inr (ap suc h.0, h.1, h.2) ]
