-- What is left by a reduction: it is determined, 1-minimal, and keeps what parts and complements keep.
use Rattle.std.proofs.Common.{◌≡◌, ℕ, ◌-◌, ◌*◌, ◌<◌, ◌≤◌, inl, inr, zero, suc, List, [], ◌∷◌, length, Bool, true, false, refl, sym, ap, ◌∙◌, subst, arith, max, min}
use Rattle.std.specs.List.{remove}
use Rattle.std.proofs.lemmas.Bool.{cases_order}
use Rattle.input_atoms.specs.Cutting.{FirstFails, NoneFails, part_of, complement_of}
use Rattle.input_atoms.specs.Ddmin.{IsReduced, small, to_part, to_complement, finer, single}
use Rattle.input_atoms.specs.Steps.{IsCut}
use Rattle.input_atoms.proofs.Places.{complement_single}
use Rattle.input_atoms.proofs.Stepping.{two_parts, full, complement_cut, finer_cut}

-- ---- 1-minimal

remove_only : (list : List ℕ) (k : ℕ) → length list ≤ 1 → k < length list → remove list k ≡ []
remove_only [] k least within = absurd (omega arith)
remove_only (x ∷ []) zero least within = refl
remove_only (x ∷ []) (suc k) least within = absurd (omega arith)
remove_only (x ∷ y ∷ ys) k least within = absurd (omega arith)

-- what is left of a list that fails fails
pub fails_on : {test : List ℕ → Bool → Type 0} {list left : List ℕ} {parts : ℕ} → IsReduced test list parts left → test list true → test left true
fails_on {test} (small list parts least) fails = fails
fails_on {test} (to_part list part left parts more first reduced) fails = fails_on reduced first.fails
fails_on {test} (to_complement list complement left parts more none_part first reduced) fails = fails_on reduced first.fails
fails_on {test} (finer list left parts more none_part none_complement most reduced) fails = fails_on reduced fails
fails_on {test} (single list parts more none_part none_complement most) fails = fails

-- no element of it can be left out
pub all_needed : {test : List ℕ → Bool → Type 0} {list left : List ℕ} {parts : ℕ} → IsReduced test list parts left → IsCut list parts → test [] false → NoneFails test (remove left) (length left)
all_needed {test} (small list parts least) cut none = λ k within. subst (λ kept. test kept false) (sym (remove_only list k least within)) none
all_needed {test} (to_part list part left parts more first reduced) cut none = all_needed reduced (two_parts part) none
all_needed {test} (to_complement list complement left parts more none_part first reduced) cut none = all_needed reduced (complement_cut test list parts cut more complement first) none
all_needed {test} (finer list left parts more none_part none_complement most reduced) cut none = all_needed reduced (finer_cut test list parts cut more) none
all_needed {test} (single list parts more none_part none_complement most) cut none =
    let within : parts ≤ length list = full test list parts cut more in
    let all : parts ≡ length list = omega arith in
    λ k here. subst (λ kept. test kept false) (complement_single list parts k all here) (none_complement k (omega arith))

-- ---- determined

-- a test that tells of no list both
module _ (test : List ℕ → Bool → Type 0) (never : (list : List ℕ) → test list true → test list false → ⊥) where
  first_determined : {lists : ℕ → List ℕ} {count : ℕ} {one other : List ℕ} → FirstFails test lists count one → FirstFails test lists count other → one ≡ other
  first_determined {lists} one other = elim (cases_order one.place other.place) [
    | inl same ↦ one.stands ∙ ap lists same ∙ sym other.stands
    | inr (inl before) ↦ absurd (never (lists one.place) (subst (λ list. test list true) one.stands one.fails) (other.first one.place before))
    | inr (inr after) ↦ absurd (never (lists other.place) (subst (λ list. test list true) other.stands other.fails) (one.first other.place after))
  ]

  first_fails : {lists : ℕ → List ℕ} {count : ℕ} {one : List ℕ} → FirstFails test lists count one → NoneFails test lists count → ⊥
  first_fails {lists} one none = never (lists one.place) (subst (λ list. test list true) one.stands one.fails) (none one.place one.within)

  -- what each case says of what is left
  left_small : {list left : List ℕ} {parts : ℕ} → IsReduced test list parts left → length list ≤ 1 → left ≡ list
  left_small (small list parts least) h = refl
  left_small (to_part list part left parts more first reduced) h = absurd (omega arith)
  left_small (to_complement list complement left parts more none first reduced) h = absurd (omega arith)
  left_small (finer list left parts more none none_complement most reduced) h = absurd (omega arith)
  left_small (single list parts more none none_complement most) h = refl

  left_part : {list left : List ℕ} {parts : ℕ} → IsReduced test list parts left → 1 < length list → (part : List ℕ) → FirstFails test (part_of list parts) parts part → IsReduced test part 2 left
  left_part (small list parts least) h part first = absurd (omega arith)
  left_part (to_part list part left parts more first reduced) h one at = rw (first_determined at first) reduced
  left_part (to_complement list complement left parts more none first reduced) h part at = absurd (first_fails at none)
  left_part (finer list left parts more none none_complement most reduced) h part at = absurd (first_fails at none)
  left_part (single list parts more none none_complement most) h part at = absurd (first_fails at none)

  left_complement : {list left : List ℕ} {parts : ℕ} → IsReduced test list parts left → 1 < length list → NoneFails test (part_of list parts) parts
      → (complement : List ℕ) → FirstFails test (complement_of list parts) parts complement → IsReduced test complement (max (parts - 1) 2) left
  left_complement (small list parts least) h none_part complement at = absurd (omega arith)
  left_complement (to_part list part left parts more first reduced) h none_part complement at = absurd (first_fails first none_part)
  left_complement (to_complement list complement left parts more none first reduced) h none_part one at = rw (first_determined at first) reduced
  left_complement (finer list left parts more none none_complement most reduced) h none_part complement at = absurd (first_fails at none_complement)
  left_complement (single list parts more none none_complement most) h none_part complement at = absurd (first_fails at none_complement)

  left_finer : {list left : List ℕ} {parts : ℕ} → IsReduced test list parts left → 1 < length list → NoneFails test (part_of list parts) parts
      → NoneFails test (complement_of list parts) parts → parts < length list → IsReduced test list (min (length list) (2 * parts)) left
  left_finer (small list parts least) h none_part none_whole at = absurd (omega arith)
  left_finer (to_part list part left parts more first reduced) h none_part none_whole at = absurd (first_fails first none_part)
  left_finer (to_complement list complement left parts more none first reduced) h none_part none_whole at = absurd (first_fails first none_whole)
  left_finer (finer list left parts more none none_complement most reduced) h none_part none_whole at = reduced
  left_finer (single list parts more none none_complement most) h none_part none_whole at = absurd (omega arith)

  left_single : {list left : List ℕ} {parts : ℕ} → IsReduced test list parts left → NoneFails test (part_of list parts) parts
      → NoneFails test (complement_of list parts) parts → length list ≤ parts → left ≡ list
  left_single (small list parts least) none_part none_whole at = refl
  left_single (to_part list part left parts more first reduced) none_part none_whole at = absurd (first_fails first none_part)
  left_single (to_complement list complement left parts more none first reduced) none_part none_whole at = absurd (first_fails first none_whole)
  left_single (finer list left parts more none none_complement most reduced) none_part none_whole at = absurd (omega arith)
  left_single (single list parts more none none_complement most) none_part none_whole at = refl

  pub determined : {list one : List ℕ} {parts : ℕ} → IsReduced test list parts one → (other : List ℕ) → IsReduced test list parts other → one ≡ other
  determined (small list parts least) other reduced = sym (left_small reduced least)
  determined (to_part list part left parts more first way) other reduced = determined way other (left_part reduced more part first)
  determined (to_complement list complement left parts more none first way) other reduced = determined way other (left_complement reduced more none complement first)
  determined (finer list left parts more none none_complement most way) other reduced = determined way other (left_finer reduced more none none_complement most)
  determined (single list parts more none none_complement most) other reduced = sym (left_single reduced none none_complement most)

-- ---- what is kept

-- What holds of the list, and goes over to parts and complements, holds of what is left.
pub kept : {test : List ℕ → Bool → Type 0} {list left : List ℕ} {parts : ℕ} (P : List ℕ → Type 0) → ((list : List ℕ) (parts k : ℕ) → P list → P (part_of list parts k)) → ((list : List ℕ) (parts k : ℕ) → P list → P (complement_of list parts k))
    → IsReduced test list parts left → P list → P left
kept P of_part of_complement (small list parts least) h = h
kept P of_part of_complement (to_part list part left parts more first reduced) h = kept P of_part of_complement reduced (subst P (sym first.stands) (of_part list parts first.place h))
kept P of_part of_complement (to_complement list complement left parts more none first reduced) h = kept P of_part of_complement reduced (subst P (sym first.stands) (of_complement list parts first.place h))
kept P of_part of_complement (finer list left parts more none none_complement most reduced) h = kept P of_part of_complement reduced h
kept P of_part of_complement (single list parts more none none_complement most) h = h
