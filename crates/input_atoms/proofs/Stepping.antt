-- What one step of a reduction does.
use Rattle.std.proofs.Common.{◌≡◌, ◌≢◌, ℕ, ◌+◌, ◌-◌, ◌*◌, ◌<◌, ◌≤◌, ◌^◌, inl, inr, zero, suc, List, length, Bool, ap, ◌∙◌, arith, max, min}
use Rattle.input_atoms.specs.Cutting.{AreAlike, FirstFails, NoneFails, part_of, complement_of}
use Rattle.input_atoms.specs.Ddmin.{IsReduced, small, to_part, to_complement, finer, single}
use Rattle.input_atoms.specs.Steps.{GoesOn, IsCut, IsInParts}
use Rattle.input_atoms.proofs.Alike.{alike_on, first_over, none_over, over}
use Rattle.input_atoms.proofs.Places.{part_shorter, complement_shorter, complement_full, complement_first, complement_second}
use Rattle.std.specs.List.{range_with_len}
use Rattle.std.proofs.lemmas.Bool.{cases_lt}
use Rattle.std.proofs.lemmas.List.FromFn.{length-range_with_len}

two_complements : (test : List ℕ → Bool → Type 0) (list : List ℕ) → NoneFails test (part_of list 2) 2 → NoneFails test (complement_of list 2) 2
two_complements test list none zero within = rw (complement_first list) (none 1 (omega arith))
two_complements test list none (suc zero) within = rw (complement_second list) (none 0 (omega arith))
two_complements test list none (suc (suc k)) within = absurd (omega arith)

-- of two parts, each is the list without the other
pub complements_of_two : (test : List ℕ → Bool → Type 0) (list : List ℕ) (parts : ℕ) → parts ≡ 2 → NoneFails test (part_of list parts) parts → NoneFails test (complement_of list parts) parts
complements_of_two test list parts two none = rw two (two_complements test list (rw two at none))

-- a list that can be cut in two, or that is not cut any more
pub two_parts : (list : List ℕ) → IsCut list 2
two_parts list = record { some = omega arith; none_empty = elim (cases_lt 1 (length list)) [ inl h ↦ inr (omega arith) | inr h ↦ inl h ] }

module _ (test : List ℕ → Bool → Type 0) (list : List ℕ) (parts : ℕ) (cut : IsCut list parts) (more : 1 < length list) where
  pub full : parts ≤ length list
  full = elim cut.none_empty [ inl least ↦ omega arith | inr within ↦ within ]

  shorter_part : (part : List ℕ) → FirstFails test (part_of list parts) parts part → length part < length list
  shorter_part part first = rw first.stands (part_shorter list parts first.place cut.some full first.within)

  shorter_complement : (complement : List ℕ) → FirstFails test (complement_of list parts) parts complement → length complement < length list
  shorter_complement complement first = rw first.stands (complement_shorter list parts first.place cut.some full first.within)

  pub complement_cut : (complement : List ℕ) → FirstFails test (complement_of list parts) parts complement → IsCut complement (max (parts - 1) 2)
  complement_cut complement first =
      let room : parts ≤ length complement + 1 = rw first.stands (complement_full list parts first.place cut.some full first.within) in
      record { some = omega arith; none_empty = elim (cases_lt 1 (length complement)) [ inl h ↦ inr (omega arith) | inr h ↦ inl h ] }

  pub finer_cut : IsCut list (min (length list) (2 * parts))
  finer_cut = let two : 2 ≤ parts = cut.some in record { some = omega arith; none_empty = inr (omega arith) }

module _ (test : List ℕ → Bool → Type 0) (list : List ℕ) (parts : ℕ) (cut : IsInParts list parts) where
  pub stays_small : length list ≤ 1 → IsReduced test list parts list
  stays_small least = small list parts least

  pub goes_to_part : (part : List ℕ) → 1 < length list → FirstFails test (part_of list parts) parts part → GoesOn test list parts part 2
  goes_to_part part more first =
      let shorter : length part < length list = shorter_part test list parts cut.cut more part first in
      let fits : length list < 2 ^ 32 = cut.fits in
      record {
        cut = record { fits = omega arith; cut = two_parts part };
        nearer = omega arith;
        back = λ left reduced. to_part list part left parts more first reduced;
      }

  pub goes_to_complement : (complement : List ℕ) (now : List ℕ → Bool → Type 0) (next : ℕ) → 1 < length list → AreAlike now test → next ≡ max (parts - 1) 2
      → NoneFails test (part_of list parts) parts → FirstFails now (complement_of list parts) parts complement → GoesOn test list parts complement next
  goes_to_complement complement now next more same is none first =
      let shorter : length complement < length list = shorter_complement now list parts cut.cut more complement first in
      let fits : length list < 2 ^ 32 = cut.fits in
      rw is (record {
        cut = record { fits = omega arith; cut = complement_cut now list parts cut.cut more complement first };
        nearer = omega arith;
        back = λ left reduced. to_complement list complement left parts more none (first_over now test (over now test same) (complement_of list parts) parts complement first) reduced;
      })

  pub goes_finer : (same_list : List ℕ) (now : List ℕ → Bool → Type 0) (next : ℕ) → same_list ≡ list → 1 < length list → AreAlike now test → next ≡ min (length list) (2 * parts)
      → NoneFails test (part_of list parts) parts → NoneFails now (complement_of list parts) parts → length list ≢ parts → GoesOn test list parts same_list next
  goes_finer same_list now next copy more same is none none_complement most =
      let within : parts ≤ length list = full test list parts cut.cut more in
      let fits : length list < 2 ^ 32 = cut.fits in
      let two : 2 ≤ parts = cut.cut.some in
      rw (copy, is) (record {
        cut = record { fits = fits; cut = finer_cut test list parts cut.cut more };
        nearer = omega arith;
        back = λ left reduced. finer list left parts more none (none_over now test (over now test same) (complement_of list parts) parts none_complement) (omega arith) reduced;
      })

  pub stays_single : (now : List ℕ → Bool → Type 0) → 1 < length list → AreAlike now test
      → NoneFails test (part_of list parts) parts → NoneFails now (complement_of list parts) parts → length list ≤ parts → IsReduced test list parts list
  stays_single now more same none none_complement most = single list parts more none (none_over now test (over now test same) (complement_of list parts) parts none_complement) most

-- what a step gives where the proof is found
pub ruleset found_steps = (stays_small, goes_to_part, stays_single, alike_on)

-- the list of all numbers is cut in two
pub starts : (all : List ℕ) (n : ℕ) → all ≡ range_with_len 0 n → n < 2 ^ 32 → IsInParts all 2
starts all n is fits = let size : length all ≡ n = ap length is ∙ length-range_with_len 0 n in record { fits = omega arith; cut = two_parts all }
