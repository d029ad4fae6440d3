-- A reduction always leaves something.
use Rattle.std.proofs.Common.{ℕ, ◌+◌, ◌-◌, ◌*◌, ◌<◌, ◌^◌, ◌⊎◌, inl, inr, zero, suc, List, length, Bool, true, false, refl, arith, max, min}
use Rattle.std.proofs.lemmas.Bool.{cases_lt, cases_order}
use Rattle.input_atoms.specs.Cutting.{FirstFails, NoneFails, part_of, complement_of}
use Rattle.input_atoms.specs.Ddmin.{IsReduced, small, single}
use Rattle.input_atoms.specs.Steps.{GoesOn, IsInParts, work}
use Rattle.input_atoms.proofs.Alike.{alike_itself}
use Rattle.input_atoms.proofs.Stepping.{goes_finer, goes_to_part, goes_to_complement, two_parts}

-- of so many lists one is the first that fails, or none fails
first_or_none : (test : List ℕ → Bool → Type 0) → ((list : List ℕ) → test list true ⊎ test list false) → (lists : ℕ → List ℕ) (count : ℕ) → ((list : List ℕ) × FirstFails test lists count list) ⊎ NoneFails test lists count
first_or_none test all lists zero = inr (λ k within. absurd (omega arith))
first_or_none test all lists (suc count) = elim (first_or_none test all lists count) [
  | inl has ↦ let below : has.1.place < count = has.1.within in inl (has.0, record { place = has.1.place; within = omega arith; stands = has.1.stands; fails = has.1.fails; first = has.1.first })
  | inr none ↦ elim (all (lists count)) [
    | inl hit ↦ inl (lists count, record { place = count; within = omega arith; stands = refl; fails = hit; first = none })
    | inr missed ↦ inr (λ k within. elim (cases_order k count) [ inl same ↦ rw same missed | inr (inl before) ↦ none k before | inr (inr after) ↦ absurd (omega arith) ])
  ]
]

left_within : (steps : ℕ) (test : List ℕ → Bool → Type 0) → ((list : List ℕ) → test list true ⊎ test list false) → (list : List ℕ) (parts : ℕ) → IsInParts list parts → work list parts < steps → (left : List ℕ) × IsReduced test list parts left
left_within zero test all list parts cut within = absurd (omega arith)
left_within (suc steps) test all list parts cut within =
    let on : (next : List ℕ) (next_parts : ℕ) → GoesOn test list parts next next_parts → (left : List ℕ) × IsReduced test list parts left = λ next next_parts goes.
    let nearer : work next next_parts < work list parts = goes.nearer in
    let rest = left_within steps test all next next_parts goes.cut (omega arith) in (rest.0, goes.back rest.0 rest.1) in
    elim (cases_lt 1 (length list)) [
      | inr least ↦ (list, small list parts least)
      | inl more ↦ elim (first_or_none test all (part_of list parts) parts) [
        | inl part ↦ on part.0 2 (goes_to_part test list parts cut part.0 more part.1)
        | inr none ↦ elim (first_or_none test all (complement_of list parts) parts) [
          | inl rest ↦ on rest.0 (max (parts - 1) 2) (goes_to_complement test list parts cut rest.0 test (max (parts - 1) 2) more (alike_itself test) refl none rest.1)
          | inr none_complement ↦ elim (cases_lt parts (length list)) [
            | inl fewer ↦ on list (min (length list) (2 * parts)) (goes_finer test list parts cut list test (min (length list) (2 * parts)) refl more (alike_itself test) refl none none_complement (omega arith))
            | inr most ↦ (list, single list parts more none none_complement most)
          ]
        ]
      ]
    ]

pub something_left : (test : List ℕ → Bool → Type 0) (list : List ℕ) → length list < 2 ^ 32 → ((list : List ℕ) → test list true ⊎ test list false) → (left : List ℕ) × IsReduced test list 2 left
something_left test list fits all = left_within (work list 2 + 1) test all list 2 (record { fits = fits; cut = two_parts list }) (omega arith)
