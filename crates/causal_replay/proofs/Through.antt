-- Lists whose elements are put through a function before they are looked at, or after.
use Rattle.std.proofs.Common.{◌≡◌, ◌+◌, ◌&&◌, ◌||◌, ℕ, zero, suc, Bool, true, false, cond, List, [], ◌∷◌, map, filter, fold, length, slice_get, nat_lt, Some, None, refl, ap}
use Rattle.std.specs.List.{list_all, list_any, position, position_or_len, prefix_len}
use Rattle.std.specs.Option.{option_map}
use Rattle.std.proofs.lemmas.List.{length-map}
use Rattle.listed.specs.Lists.{changed_at}

pub map_twice : {A B C : Type 0} (g : B → C) (f : A → B) (xs : List A) → map g (map f xs) ≡ map (λ x. g (f x)) xs
map_twice g f [] = refl
map_twice g f (x ∷ xs) = ap (λ rest. g (f x) ∷ rest) (map_twice g f xs)

module _ {A B : Type 0} (f : A → B) where
  -- those that pass a test afterwards
  pub filter_after : (p : B → Bool) (xs : List A) → filter p (map f xs) ≡ map f (filter (λ x. p (f x)) xs)
  filter_after p [] = refl
  filter_after p (x ∷ xs) =
      elim (p (f x)) as (λ b. cond b (f x ∷ filter p (map f xs)) (filter p (map f xs)) ≡ map f (cond b (x ∷ filter (λ y. p (f y)) xs) (filter (λ y. p (f y)) xs)))
      [ true ↦ ap (λ rest. f x ∷ rest) (filter_after p xs) | false ↦ filter_after p xs ]

  pub all_after : (p : B → Bool) (xs : List A) → list_all p (map f xs) ≡ list_all (λ x. p (f x)) xs
  all_after p [] = refl
  all_after p (x ∷ xs) = ap (λ b. p (f x) && b) (all_after p xs)

  pub any_after : (p : B → Bool) (xs : List A) → list_any p (map f xs) ≡ list_any (λ x. p (f x)) xs
  any_after p [] = refl
  any_after p (x ∷ xs) = ap (λ b. p (f x) || b) (any_after p xs)

  pub fold_after : {C : Type 0} (step : C → B → C) (start : C) (xs : List A) → fold step start (map f xs) ≡ fold (λ so_far x. step so_far (f x)) start xs
  fold_after step start [] = refl
  fold_after step start (x ∷ xs) = fold_after step (step start (f x)) xs

  prefix_after : (p : B → Bool) (xs : List A) → prefix_len p (map f xs) ≡ prefix_len (λ x. p (f x)) xs
  prefix_after p [] = refl
  prefix_after p (x ∷ xs) = ap (λ rest. cond (p (f x)) (1 + rest) 0) (prefix_after p xs)

  -- where the first that passes a test stands
  pub position_after : (p : B → Bool) (xs : List A) → position p (map f xs) ≡ position (λ x. p (f x)) xs
  position_after p xs =
      let first : position_or_len p (map f xs) ≡ position_or_len (λ x. p (f x)) xs = prefix_after _ xs in
      let size : length (map f xs) ≡ length xs = length-map xs f in
      λ i. cond (nat_lt (first i) (size i)) (Some (first i)) None

  pub get_after : (xs : List A) (n : ℕ) → slice_get (map f xs) n ≡ option_map f (slice_get xs n)
  get_after [] n = refl
  get_after (x ∷ xs) zero = refl
  get_after (x ∷ xs) (suc n) = get_after xs n

  -- a change at a place before is a change there afterwards
  pub changed_after : (g : A → A) (h : B → B) → ((x : A) → f (g x) ≡ h (f x)) → (n : ℕ) (xs : List A) → map f (changed_at n g xs) ≡ changed_at n h (map f xs)
  changed_after g h same n [] = refl
  changed_after g h same zero (x ∷ xs) = ap (λ y. y ∷ map f xs) (same x)
  changed_after g h same (suc n) (x ∷ xs) = ap (λ rest. f x ∷ rest) (changed_after g h same n xs)
