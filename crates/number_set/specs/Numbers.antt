-- The members of a set of numbers, and the first of them past a number.
use Rattle.std.specs.Prelude.{◌≡◌, ◌≢◌, ℕ, ◌+◌, ◌<◌, ◌≤◌, Bool, true, false, List, [], ◌∷◌, filter, filter_map, slice_get, nat_le, Option, Some, None, if◌then◌else◌}
use Rattle.std.specs.List.{enumerate_from}
use Rattle.std.proofs.Common.{ap, arith, inl, inr, refl, subst, suc, zero}
use Rattle.std.proofs.lemmas.Bool.{cases_lt, cases_order, le-leb, lt-leb}
use Rattle.std.proofs.lemmas.Option.{slice_get_cases, slice_get_within}

-- the members of a set that is given by a flag for each number, ascending
abbrev pub members : List Bool → List ℕ
members flags = filter_map (λ number. if number.1 then Some number.0 else None) (enumerate_from 0 flags)

-- the least member at or past a number
abbrev pub first_from : ℕ → List Bool → Option ℕ
first_from from flags = slice_get (filter (λ number. nat_le from number) (members flags)) 0

-- the same, where the flags are those of the numbers from another one on
abbrev first_at : ℕ → ℕ → List Bool → Option ℕ
first_at start from flags = slice_get (filter (λ number. nat_le from number) (filter_map (λ number. if number.1 then Some number.0 else None) (enumerate_from start flags))) 0

-- what it is to be the least member at or past a number, or none, where the flags are those of the numbers from another one on
abbrev pub IsFirst : ℕ → ℕ → List Bool → Option ℕ → Type 0
IsFirst start from flags None = (place : ℕ) → from ≤ start + place → slice_get flags place ≢ Some true
IsFirst start from flags (Some number) = (place : ℕ) × (number ≡ start + place) × (from ≤ number) × (slice_get flags place ≡ Some true) × ((other : ℕ) → other < place → from ≤ start + other → slice_get flags other ≢ Some true)

-- a first flag that does not count leaves the least member to those that follow
not_at_head : (start from : ℕ) (flag : Bool) (flags : List Bool) (bound : ℕ) → (flag ≡ true → start < from)
    → ((other : ℕ) → other < bound → from ≤ (start + 1) + other → slice_get flags other ≢ Some true)
    → (other : ℕ) → other < suc bound → from ≤ start + other → slice_get (flag ∷ flags) other ≢ Some true
not_at_head start from flag flags bound head rest zero below at is = let less : start < from = head cc in absurd (omega arith)
not_at_head start from flag flags bound head rest (suc other) below at is = rest other (omega arith) (omega arith) is

past_head : (start from : ℕ) (flag : Bool) (flags : List Bool) (o : Option ℕ) → (flag ≡ true → start < from) → IsFirst (start + 1) from flags o → IsFirst start from (flag ∷ flags) o
past_head start from flag flags None head rest = λ place at. not_at_head start from flag flags place head (λ other _ at. rest other at) place (omega arith) at
past_head start from flag flags (Some number) head (place, is, at, here, before) = (suc place, omega arith, at, here, not_at_head start from flag flags place head before)

-- the definition gives the first
is_first : (start from : ℕ) (flags : List Bool) → IsFirst start from flags (first_at start from flags)
is_first start from [] = λ place at is. absurd cc
is_first start from (false ∷ flags) = past_head start from false flags (first_at (start + 1) from flags) (λ same. absurd cc) (is_first (start + 1) from flags)
is_first start from (true ∷ flags) =
    elim (cases_lt start from) [
      | inl less ↦
          let no : nat_le from start ≡ false = lt-leb from start less in
          rw no (past_head start from true flags (first_at (start + 1) from flags) (λ _. less) (is_first (start + 1) from flags))
      | inr at ↦
          let yes : nat_le from start ≡ true = le-leb from start at in
          rw yes (0, omega arith, at, refl, λ other below. absurd (omega arith))
    ]

-- there is but one first
one_first : (from : ℕ) (flags : List Bool) (o p : Option ℕ) → IsFirst 0 from flags o → IsFirst 0 from flags p → o ≡ p
one_first from flags None None none again = refl
one_first from flags None (Some number) none (place, is, at, here, before) = absurd (none place (omega arith) here)
one_first from flags (Some number) None (place, is, at, here, before) none = absurd (none place (omega arith) here)
one_first from flags (Some one) (Some two) (place, is, at, here, before) (place2, is2, at2, here2, before2) =
    elim (cases_order place place2) [
      | inl same ↦ let e : one ≡ two = omega arith in ap Some e
      | inr (inl less) ↦ absurd (before2 place less (omega arith) here)
      | inr (inr more) ↦ absurd (before place2 more (omega arith) here2)
    ]

-- what is the first is what `first_from` tells
pub first_from_is : (from : ℕ) (flags : List Bool) (o : Option ℕ) → IsFirst 0 from flags o → o ≡ first_from from flags
first_from_is from flags o first = one_first from flags o (first_from from flags) first (is_first 0 from flags)

-- below a flag that is there, a flag that is not set is clear
clear_below : (flags : List Bool) (other number : ℕ) → other < number → slice_get flags number ≡ Some true → slice_get flags other ≢ Some true → slice_get flags other ≡ Some false
clear_below flags other number below is not = elim (slice_get_cases flags other).1 [
  | inl (true, within, here, _) ↦ absurd (not here)
  | inl (false, within, here, _) ↦ here
  | inr (past, none) ↦ let within = slice_get_within flags number true is in absurd (omega arith)
]

-- the least member is a member at or past the number, and none lies between
pub first_from_some : (from : ℕ) (flags : List Bool) (number : ℕ) → first_from from flags ≡ Some number
    → (from ≤ number) × (slice_get flags number ≡ Some true) × ((other : ℕ) → from ≤ other → other < number → slice_get flags other ≡ Some false)
first_from_some from flags number e =
    let first : IsFirst 0 from flags (Some number) = subst (IsFirst 0 from flags) e (is_first 0 from flags) in
    let same : first.0 ≡ number = omega arith in
    let member : slice_get flags number ≡ Some true = subst (λ n. slice_get flags n ≡ Some true) same first.3 in
    (first.2, member, λ other from_at below. clear_below flags other number below member (first.4 other (omega arith) (omega arith)))

-- where there is no least member, there is no member at or past the number
pub first_from_none : (from : ℕ) (flags : List Bool) → first_from from flags ≡ None → (other : ℕ) → from ≤ other → slice_get flags other ≢ Some true
first_from_none from flags e other at = let none : IsFirst 0 from flags None = subst (IsFirst 0 from flags) e (is_first 0 from flags) in none other (omega arith)
