-- The order in which entries are tried.
use Rattle.std.proofs.Common.{◌≡◌, ◌+◌, ◌<◌, ◌++◌, ℕ, false, All, Contains, List, [], ◌∷◌, IsPermutation, IsSorted, length, get_or, slice_get, Some, inl, inr, refl, subst, lit<, arith}
use Rattle.std.proofs.lemmas.Bool.{cases_lt, eq-eqb, le-ltb, lt-ltb}
use Rattle.std.proofs.lemmas.Cmp.{back_total, nat_cmp_total, on_total, then_total}
use Rattle.std.proofs.lemmas.List.Elements.{All-push, Contains-append_left, Contains-append_right}
use Rattle.std.proofs.lemmas.List.Sorted.{All-permutation, Contains-permutation, ranks_by, sorted_far}
use Rattle.std.specs.Cmp.{IsStrictWeakOrder, IsTotalOrder}
use Rattle.std.specs.Ordering.{is_lt, nat_cmp, ordering_then}
use Rattle.std.specs.declared.cmp.Ordering.{Ordering}
use Rattle.std.specs.declared.cmp.Reverse.{Reverse}
use Rattle.flow_table.specs.Entry.{rank}
use Rattle.flow_table.specs.declared.entry.Entry.{Entry}
use Rattle.header_classes.specs.Order.{IsOrder, IsRanked, IsUnbeaten}

-- ---- the list of all entries

-- one entry more is listed
pub ranked_more : (entries : List Entry) (order : List (Reverse ℕ × ℕ)) (r : Reverse ℕ) (n : ℕ) (e : Entry) → slice_get entries n ≡ Some e → rank e ≡ r.0
    → All (IsRanked entries) order → All (IsRanked entries) (order ++ (r, n) ∷ [])
ranked_more entries order r n e here is all = All-push (IsRanked entries) order (r, n) all record { entry = e; here = here; ranks = is }

pub every_more : (order : List (Reverse ℕ × ℕ)) (r : Reverse ℕ) (n : ℕ) → ((place : ℕ) → place < n → (s : Reverse ℕ) × Contains order (s, place))
    → (place : ℕ) → place < n + 1 → (s : Reverse ℕ) × Contains (order ++ (r, n) ∷ []) (s, place)
every_more order r n every place below = elim (cases_lt place n) [
  | inl low ↦ let old = every place low in (old.0, Contains-append_left order ((r, n) ∷ []) (old.0, place) old.1)
  | inr high ↦
      let at : n ≡ place = omega arith in
      let last : Contains ((r, n) ∷ []) (r, n) = (0, lit< tt, refl) in
      (r, subst (λ (k : ℕ). Contains (order ++ (r, n) ∷ []) (r, k)) at (Contains-append_right order ((r, n) ∷ []) (r, n) last))
]

-- ---- sorted

-- ranks fall, and among equal ranks places rise
ranked_cmp : Reverse ℕ × ℕ → Reverse ℕ × ℕ → Ordering
ranked_cmp one other = ordering_then (nat_cmp other.0.0 one.0.0) (nat_cmp one.1 other.1)

total : IsTotalOrder ranked_cmp
unfolding ranked_cmp
total = then_total (on_total (λ (r : Reverse ℕ × ℕ). r.0.0) (back_total nat_cmp_total)) (on_total (λ (r : Reverse ℕ × ℕ). r.1) nat_cmp_total)

unbeaten_from : (one other : Reverse ℕ × ℕ) → is_lt (ordering_then (nat_cmp one.0.0 other.0.0) (nat_cmp other.1 one.1)) ≡ false → IsUnbeaten one other
unbeaten_from one other not_less = record {
  rank = elim (cases_lt one.0.0 other.0.0) [
    | inl less ↦ absurd (let both = rw (lt-ltb one.0.0 other.0.0 less) at not_less in cc both)
    | inr most ↦ most
  ];
  place = λ equal. elim (cases_lt other.1 one.1) [
    | inl less ↦ absurd (let both = rw (le-ltb one.0.0 other.0.0 (omega arith), eq-eqb one.0.0 other.0.0 equal, lt-ltb other.1 one.1 less) at not_less in cc both)
    | inr later ↦ later
  ];
}

-- a sorted list of all entries is the order in which they are tried
pub sorted_order : (entries : List Entry) (listed sorted : List (Reverse ℕ × ℕ)) → All (IsRanked entries) listed
    → ((place : ℕ) → place < length entries → (s : Reverse ℕ) × Contains listed (s, place)) → IsPermutation listed sorted
    → IsSorted (λ x y. ordering_then (nat_cmp y.0.0 x.0.0) (nat_cmp x.1 y.1)) sorted → IsOrder entries sorted
unfolding ranked_cmp
sorted_order entries listed sorted all every moved up = record {
  ranked = All-permutation (IsRanked entries) listed sorted moved all;
  every = λ place below. let old = every place below in (old.0, Contains-permutation listed sorted (old.0, place) moved old.1);
  unbeaten = λ i j d less within.
      let order : IsStrictWeakOrder (λ (x y : Reverse ℕ × ℕ). is_lt (ranked_cmp x y)) = ranks_by total (λ (r : Reverse ℕ × ℕ). r) in
      unbeaten_from (get_or sorted i d) (get_or sorted j d) (sorted_far (λ (x y : Reverse ℕ × ℕ). is_lt (ranked_cmp x y)) order sorted up i j d (omega arith) within);
}
