-- Elements of lists: of those that are kept, mapped, tested; the first number that passes a test, and the least of a list.
use Rattle.std.proofs.Common.{◌≡◌, ◌∙◌, ℕ, ◌+◌, ◌<◌, ◌≤◌, ◌⊎◌, Bool, true, false, cond, List, [], ◌∷◌, Option, Some, None, Contains, filter, filter_map, length, map, min, fold, flat_map, ap, arith, inl, inr, refl, sym, subst, zero, suc}
use Rattle.std.proofs.lemmas.Bool.{both_ways, cases_Bool, cases_eq, cases_lt, or_cases, or_left, or_right}
use Rattle.std.proofs.lemmas.List.Elements.{Contains-append_cases}
use Rattle.std.specs.List.{cons_option, find, list_any, range_with_len, reduce}

pub contains_none : {X : Type 0} (x : X) → Contains [] x → ⊥
contains_none x at = let within = at.1 in omega arith

pub contains_here : {X : Type 0} (x : X) (xs : List X) → Contains (x ∷ xs) x
contains_here x xs = (0, omega arith, refl)

pub contains_there : {X : Type 0} (y : X) (xs : List X) (x : X) → Contains xs x → Contains (y ∷ xs) x
contains_there y xs x at = let within = at.1 in (suc at.0, omega arith, at.2)

pub contains_cases : {X : Type 0} (y : X) (xs : List X) (x : X) → Contains (y ∷ xs) x → (y ≡ x) ⊎ Contains xs x
contains_cases y xs x (zero, within, is) = inl is
contains_cases y xs x (suc k, within, is) = inr (k, omega arith, is)

-- ---- filters

pub contains_kept : {X : Type 0} (p : X → Bool) (xs : List X) (x : X) → Contains xs x → p x ≡ true → Contains (filter p xs) x
contains_kept p [] x at test = absurd (contains_none x at)
contains_kept {X} p (y ∷ ys) x at test =
    elim (contains_cases y ys x at) [
      | inl same ↦ rw (ap p same ∙ test) (subst (λ (z : X). Contains (y ∷ filter p ys) z) same (contains_here y (filter p ys)))
      | inr later ↦
          let rest = contains_kept p ys x later test in
          elim (p y) as (λ b. Contains (cond b (y ∷ filter p ys) (filter p ys)) x) [ true ↦ contains_there y (filter p ys) x rest | false ↦ rest ]
    ]

pub contains_before : {X : Type 0} (p : X → Bool) (xs : List X) (x : X) → Contains (filter p xs) x → Contains xs x
contains_before p [] x at = at
contains_before p (y ∷ ys) x at =
    (elim (p y) as (λ b. Contains (cond b (y ∷ filter p ys) (filter p ys)) x → Contains (y ∷ ys) x) [
      | true ↦ λ now. elim (contains_cases y (filter p ys) x now) [ inl same ↦ (0, omega arith, same) | inr later ↦ contains_there y ys x (contains_before p ys x later) ]
      | false ↦ λ now. contains_there y ys x (contains_before p ys x now)
    ]) at

filter_short : {X : Type 0} (p : X → Bool) (xs : List X) → length (filter p xs) ≤ length xs
filter_short p [] = omega arith
filter_short p (y ∷ ys) =
    let rest = filter_short p ys in
    elim (p y) as (λ b. length (cond b (y ∷ filter p ys) (filter p ys)) ≤ length (y ∷ ys)) [ true ↦ omega arith | false ↦ omega arith ]

-- a filter that drops an element of a list makes it shorter
pub filter_shorter : {X : Type 0} (p : X → Bool) (xs : List X) (x : X) → Contains xs x → p x ≡ false → length (filter p xs) < length xs
filter_shorter p [] x at test = absurd (contains_none x at)
filter_shorter p (y ∷ ys) x at test =
    elim (contains_cases y ys x at) [
      | inl same ↦ let all = filter_short p ys in rw (ap p same ∙ test) (omega arith)
      | inr later ↦
          let rest = filter_shorter p ys x later test in
          elim (p y) as (λ b. length (cond b (y ∷ filter p ys) (filter p ys)) < length (y ∷ ys)) [ true ↦ omega arith | false ↦ omega arith ]
    ]

-- ---- maps

pub contains_mapped : {X Y : Type 0} (f : X → Y) (xs : List X) (x : X) → Contains xs x → Contains (map f xs) (f x)
contains_mapped f [] x at = absurd (contains_none x at)
contains_mapped f (y ∷ ys) x at =
    elim (contains_cases y ys x at) [
      | inl same ↦ (0, omega arith, ap f same)
      | inr later ↦ contains_there (f y) (map f ys) (f x) (contains_mapped f ys x later)
    ]

-- what a list has is in the list with what may come before it
after_option : {Y : Type 0} (o : Option Y) (ys : List Y) (y : Y) → Contains ys y → Contains (cons_option o ys) y
after_option None ys y at = at
after_option (Some z) ys y at = contains_there z ys y at

pub contains_picked : {X Y : Type 0} (h : X → Option Y) (xs : List X) (x : X) (y : Y) → Contains xs x → h x ≡ Some y → Contains (filter_map h xs) y
contains_picked h [] x y at is = absurd (contains_none x at)
contains_picked {X} {Y} h (z ∷ zs) x y at is =
    elim (contains_cases z zs x at) [
      | inl same ↦ subst (λ (o : Option Y). Contains (cons_option o (filter_map h zs)) y) (sym (ap h same ∙ is)) (contains_here y (filter_map h zs))
      | inr later ↦ after_option (h z) (filter_map h zs) y (contains_picked h zs x y later is)
    ]

pub picked_from : {X Y : Type 0} (h : X → Option Y) (xs : List X) (y : Y) → Contains (filter_map h xs) y → (x : X) × Contains xs x × (h x ≡ Some y)
picked_from h [] y at = absurd (contains_none y at)
picked_from {X} {Y} h (z ∷ zs) y at =
    (elim (h z) as (λ o. h z ≡ o → Contains (cons_option o (filter_map h zs)) y → (x : X) × Contains (z ∷ zs) x × (h x ≡ Some y)) [
      | None ↦ λ is now. let rest = picked_from h zs y now in (rest.0, contains_there z zs rest.0 rest.1, rest.2)
      | Some w ↦ λ is now. elim (contains_cases w (filter_map h zs) y now) [
        | inl same ↦ (z, contains_here z zs, is ∙ ap (λ (v : Y). Some v) same)
        | inr later ↦ let rest = picked_from h zs y later in (rest.0, contains_there z zs rest.0 rest.1, rest.2)
      ]
    ]) refl at

-- ---- tests

pub any_found : {X : Type 0} (p : X → Bool) (xs : List X) → list_any p xs ≡ true → (x : X) × Contains xs x × (p x ≡ true)
any_found p [] test = absurd cc
any_found p (x ∷ xs) test =
    elim (or_cases (p x) (list_any p xs) test) [
      | inl here ↦ (x, contains_here x xs, here)
      | inr later ↦ let rest = any_found p xs later in (rest.0, contains_there x xs rest.0 rest.1, rest.2)
    ]

pub any_holds : {X : Type 0} (p : X → Bool) (xs : List X) (x : X) → Contains xs x → p x ≡ true → list_any p xs ≡ true
any_holds p [] x at test = absurd (contains_none x at)
any_holds p (y ∷ ys) x at test =
    elim (contains_cases y ys x at) [
      | inl same ↦ or_left (p y) (list_any p ys) (ap p same ∙ test)
      | inr later ↦ or_right (p y) (list_any p ys) (any_holds p ys x later test)
    ]

-- ---- numbers

-- the first of some numbers that passes a test
pub record IsFirst (p : ℕ → Bool) (start len d : ℕ) : Type 0 where
  pub found : find p (range_with_len start len) ≡ Some d
  pub passes : p d ≡ true
  pub first : (m : ℕ) → start ≤ m → p m ≡ true → d ≤ m

-- none of them does
pub record HasNone (p : ℕ → Bool) (start len : ℕ) : Type 0 where
  pub nothing : find p (range_with_len start len) ≡ None
  pub fails : (m : ℕ) → start ≤ m → m < start + len → p m ≡ true → ⊥

pub first_number : (p : ℕ → Bool) (start len : ℕ) → ((d : ℕ) × IsFirst p start len d) ⊎ HasNone p start len
first_number p start zero = inr (record { nothing = refl; fails = λ m low high test. omega arith })
first_number p start (suc len) =
    elim (cases_Bool (p start)) [
      | inl here ↦ inl (start, record { found = rw here refl; passes = here; first = λ m low test. low })
      | inr not ↦ elim (first_number p (start + 1) len) [
        | inl found ↦ inl (
          found.0,
          record {
            found = rw not found.1.found;
            passes = found.1.passes;
            first = λ m low test. elim (cases_eq start m) [ inl same ↦ absurd (both_ways (p m) (ap p (sym same) ∙ not) test) | inr apart ↦ found.1.first m (omega arith) test ];
          },
        )
        | inr none ↦ inr (record {
          nothing = rw not none.nothing;
          fails = λ m low high test. elim (cases_eq start m) [ inl same ↦ both_ways (p m) (ap p (sym same) ∙ not) test | inr apart ↦ none.fails m (omega arith) (omega arith) test ];
        })
      ]
    ]

-- the least of a list that begins with a number
least_along : (a : ℕ) (xs : List ℕ) → Contains (a ∷ xs) (fold min a xs) × ((y : ℕ) → Contains (a ∷ xs) y → fold min a xs ≤ y)
least_along a [] = (contains_here a [], λ y at. elim (contains_cases a [] y at) [ inl same ↦ omega arith | inr later ↦ absurd (contains_none y later) ])
least_along a (x ∷ xs) =
    let rest = least_along (min a x) xs in (
      elim (contains_cases (min a x) xs (fold min (min a x) xs) rest.0) [
        | inl same ↦ elim (cases_lt a x) [ inl less ↦ (0, omega arith, omega arith) | inr more ↦ (1, omega arith, omega arith) ]
        | inr later ↦ contains_there a (x ∷ xs) (fold min (min a x) xs) (contains_there x xs (fold min (min a x) xs) later)
      ],
      λ y at. let top = rest.1 (min a x) (contains_here (min a x) xs) in elim (contains_cases a (x ∷ xs) y at) [
        | inl same ↦ omega arith
        | inr later ↦ elim (contains_cases x xs y later) [ inl same ↦ omega arith | inr far ↦ rest.1 y (contains_there (min a x) xs y far) ]
      ],
    )

-- the least of a list that has an element
pub least_of : (xs : List ℕ) (x : ℕ) → Contains xs x → (l : ℕ) × (reduce min xs ≡ Some l) × Contains xs l × ((y : ℕ) → Contains xs y → l ≤ y)
least_of [] x at = absurd (contains_none x at)
least_of (y ∷ ys) x at = let least = least_along y ys in (fold min y ys, refl, least.0, least.1)

-- the numbers below a bound
pub contains_range : (start len n : ℕ) → start ≤ n → n < start + len → Contains (range_with_len start len) n
contains_range start zero n low high = absurd (omega arith)
contains_range start (suc len) n low high =
    elim (cases_eq start n) [
      | inl same ↦ (0, omega arith, same)
      | inr apart ↦ contains_there start (range_with_len (start + 1) len) n (contains_range (start + 1) len n (omega arith) (omega arith))
    ]

pub length_range : (start len : ℕ) → length (range_with_len start len) ≡ len
length_range start zero = refl
length_range start (suc len) = ap suc (length_range (start + 1) len)

-- ---- lists of lists

pub contains_joined : {X Y : Type 0} (f : X → List Y) (xs : List X) (y : Y) → Contains (flat_map f xs) y → (x : X) × Contains xs x × Contains (f x) y
contains_joined f [] y at = absurd (contains_none y at)
contains_joined f (x ∷ xs) y at =
    elim (Contains-append_cases (f x) (flat_map f xs) y at) [
      | inl here ↦ (x, contains_here x xs, here)
      | inr later ↦ let rest = contains_joined f xs y later in (rest.0, contains_there x xs rest.0 rest.1, rest.2)
    ]
