-- The first place in a range that passes a test, lines at places, and a list that is made along a range.
use Rattle.std.proofs.Common.{◌≡◌, ℕ, ◌+◌, ◌<◌, ◌≤◌, inl, inr, zero, suc, List, [], ◌∷◌, ◌++◌, length, Bool, true, false, ◌&&◌, not, Option, Some, None, refl, ap, ◌∙◌, get_or, arith, add-one, add-zero, zero-add, append-nil}
use Rattle.std.specs.List.{filter_map, find, list_any, range_with_len, slice_range}
use Rattle.std.proofs.lemmas.Bool.{cases_order}
use Rattle.std.proofs.lemmas.Option.{slice_get-get_or}
use Rattle.std.proofs.lemmas.List.Elements.{filter_map-append}
use Rattle.machine_setup.specs.declared.script.Line.{Line}
use Rattle.input_atoms.specs.Atoms.{are_one, brings_back, is_about, thing_failed}
use Rattle.input_atoms.specs.declared.thing.Thing.{Thing}

-- ---- the first place in a range that passes a test

pub find_none : (p : ℕ → Bool) (a n : ℕ) → ((j : ℕ) → a ≤ j → j < a + n → p j ≡ false) → find p (range_with_len a n) ≡ None
find_none p a zero none = refl
find_none p a (suc n) none = rw (none a (omega arith) (omega arith)) (find_none p (a + 1) n (λ j low high. none j (omega arith) (omega arith)))

pub find_here : (p : ℕ → Bool) (a n k : ℕ) → a ≤ k → k < a + n → p k ≡ true → ((j : ℕ) → a ≤ j → j < k → p j ≡ false) → find p (range_with_len a n) ≡ Some k
find_here p a zero k low high here before = absurd (omega arith)
find_here p a (suc n) k low high here before = elim (cases_order a k) [
  | inl same ↦ rw (same, here)
  | inr (inl later) ↦ rw (before a (omega arith) later) (find_here p (a + 1) n k (omega arith) (omega arith) here (λ j least most. before j (omega arith) most))
  | inr (inr never) ↦ absurd (omega arith)
]

-- ---- lines at places

pub pair_of_none : (script : List Line) (first later : ℕ) (d : Line) → first < length script → thing_failed (get_or script first d).input ≡ None → are_one script first later ≡ false
pair_of_none script first later d within none = rw (slice_get-get_or script first d within, none)

pub pair_of_some : (script : List Line) (first later : ℕ) (d e : Line) (thing : Thing) → first < length script → later < length script → thing_failed (get_or script first d).input ≡ Some thing
    → are_one script first later ≡ (brings_back thing (get_or script later e) && not (list_any (is_about thing) (slice_range script (first + 1) later)))
pair_of_some script first later d e thing within later_within some = rw (slice_get-get_or script first d within, slice_get-get_or script later e later_within, some)

-- ---- a list that is made along a range

range_suc : (a n : ℕ) → range_with_len a (suc n) ≡ range_with_len a n ++ (a + n) ∷ []
range_suc a zero = rw add-zero
range_suc a (suc n) = ap (λ xs. a ∷ xs) (range_suc (a + 1) n ∙ ap (λ k. range_with_len (a + 1) n ++ k ∷ []) (omega arith))

pub more : {X : Type 0} (h : ℕ → Option X) (n : ℕ) → filter_map h (range_with_len 0 (suc n)) ≡ filter_map h (range_with_len 0 n) ++ filter_map h (n ∷ [])
more h n = ap (filter_map h) (range_suc 0 n ∙ ap (λ k. range_with_len 0 n ++ k ∷ []) (zero-add n)) ∙ filter_map-append h (range_with_len 0 n) (n ∷ [])

pub more_some : {X : Type 0} (h : ℕ → Option X) (n : ℕ) (x : X) → h n ≡ Some x → filter_map h (range_with_len 0 (n + 1)) ≡ filter_map h (range_with_len 0 n) ++ x ∷ []
more_some h n x some = ap (λ k. filter_map h (range_with_len 0 k)) (add-one n) ∙ more h n ∙ rw some

pub more_none : {X : Type 0} (h : ℕ → Option X) (n : ℕ) → h n ≡ None → filter_map h (range_with_len 0 (n + 1)) ≡ filter_map h (range_with_len 0 n)
more_none h n none = ap (λ k. filter_map h (range_with_len 0 k)) (add-one n) ∙ more h n ∙ rw none (append-nil (filter_map h (range_with_len 0 n)))
