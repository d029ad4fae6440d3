-- The first member, as the bits of two words and the summary tell it.
use Rattle.std.proofs.Common.{◌≡◌, ◌∙◌, ℕ, ◌+◌, ◌*◌, ◌/◌, ◌%◌, ◌<◌, ◌≤◌, ◌^◌, ◌==◌, true, false, All, List, length, get_or, Option, Some, None, ap, arith, inl, inr, refl, subst, sym, true≢false}
use Rattle.std.specs.Int.{bit_at}
use Rattle.std.proofs.lemmas.Bool.{cases_eq, cases_lt}
use Rattle.std.proofs.lemmas.List.{get_or_past, get_or_read}
use Rattle.std.proofs.lemmas.Nat.Bits.{bit_at-zero, same_from_bits_below}
use Rattle.number_set.specs.Numbers.{IsFirst, first_from, first_from_is}
use Rattle.number_set.specs.Words.{FirstBit, Kept, bit_of, flags_of}
use Rattle.number_set.proofs.Places.{bit_in, bit_member, clear_bit, flag_at, length_flags, member_bit, zero_word}

-- what it is to be the least number at or past another one whose bit is set, or none
abbrev pub FirstNumber : List ℕ → ℕ → Option ℕ → Type 0
FirstNumber words from None = (number : ℕ) → from ≤ number → bit_of words number ≡ 0
FirstNumber words from (Some number) = (from ≤ number) × (bit_of words number ≡ 1) × ((other : ℕ) → from ≤ other → other < number → bit_of words other ≡ 0)

-- the first bit of a word that was read
pub in_word : (words : List ℕ) (at word from : ℕ) (o : Option ℕ) → at < length words → word ≡ get_or words at word → FirstBit word from o → FirstBit (get_or words at 0) from o
in_word words at word from o within read first = subst (λ w. FirstBit w from o) (get_or_read words at word within read 0) first

-- that number is the first member
is_first : (count : ℕ) (words : List ℕ) (summary from : ℕ) (o : Option ℕ) → Kept count words summary → FirstNumber words from o → IsFirst 0 from (flags_of count words) o
is_first count words summary from None kept none = λ place at is. let set = member_bit count words place is in let clear = none place (omega arith) in omega arith
is_first count words summary from (Some number) kept (at, set, before) = (
  number,
  omega arith,
  at,
  bit_member count words number (kept.inside number set) set,
  λ other below from_at is. let set = member_bit count words other is in let clear = before other (omega arith) below in omega arith,
)

pub found : (count : ℕ) (words : List ℕ) (summary from : ℕ) (o : Option ℕ) → Kept count words summary → FirstNumber words from o → o ≡ first_from from (flags_of count words)
found count words summary from o kept first = first_from_is from (flags_of count words) o (is_first count words summary from o kept first)

-- a number of a word that is 0, or that is not there, has a clear bit
clear_in : (words : List ℕ) (number : ℕ) → get_or words (number / 64) 0 ≡ 0 → bit_of words number ≡ 0
clear_in words number is = bit_in words number (number / 64) (number % 64) refl refl ∙ ap (λ w. bit_at w (number % 64)) is ∙ bit_at-zero (number % 64)

pub past_the_words : (words : List ℕ) (from : ℕ) → length words ≤ from / 64 → FirstNumber words from None
past_the_words words from past = λ number at. clear_in words number (get_or_past words (number / 64) 0 (omega arith))

-- a number of a word that the summary does not have
unmarked : (count : ℕ) (words : List ℕ) (summary number : ℕ) → Kept count words summary → (number / 64 < 64 → bit_at summary (number / 64) ≡ 0) → bit_of words number ≡ 0
unmarked count words summary number kept clear = clear_in words number (elim (cases_lt (number / 64) 64) [
  | inl low ↦ (kept.marked (number / 64) low).0 (clear low)
  | inr high ↦ get_or_past words (number / 64) 0 (omega (arith, kept.few))
])

-- the first bit of the first word, if it has one
pub in_this_word : (words : List ℕ) (from bit : ℕ) → FirstBit (get_or words (from / 64) 0) (from % 64) (Some bit) → FirstNumber words from (Some (from / 64 * 64 + bit))
in_this_word words from bit (at, low, set, before) = (
  omega arith,
  bit_in words (from / 64 * 64 + bit) (from / 64) bit (omega arith) (omega arith) ∙ set,
  λ other from_at below.
      let beside : other / 64 ≡ from / 64 = omega arith in
      bit_in words other (from / 64) (other % 64) beside refl ∙ before (other % 64) (omega arith) (omega arith),
)

-- below a later word that is the first in the summary, each bit is clear
clear_between : (count : ℕ) (words : List ℕ) (summary from : ℕ) → Kept count words summary → FirstBit (get_or words (from / 64) 0) (from % 64) None
    → (number : ℕ) → from ≤ number → (from / 64 < number / 64 → number / 64 < 64 → bit_at summary (number / 64) ≡ 0) → bit_of words number ≡ 0
clear_between count words summary from kept none number at clear = elim (cases_eq (number / 64) (from / 64)) [
  | inl beside ↦ bit_in words number (from / 64) (number % 64) beside refl ∙ none (number % 64) (omega arith) (omega arith)
  | inr away ↦ unmarked count words summary number kept (λ low. clear (omega arith) low)
]

pub in_no_word : (count : ℕ) (words : List ℕ) (summary from : ℕ) → Kept count words summary → FirstBit (get_or words (from / 64) 0) (from % 64) None → FirstBit summary (from / 64 + 1) None → FirstNumber words from None
in_no_word count words summary from kept none clear = λ number at. clear_between count words summary from kept none number at (λ later low. clear (number / 64) (omega arith) low)

pub in_later_word : (count : ℕ) (words : List ℕ) (summary from next bit : ℕ) → Kept count words summary → FirstBit (get_or words (from / 64) 0) (from % 64) None → FirstBit summary (from / 64 + 1) (Some next)
    → FirstBit (get_or words next 0) 0 (Some bit) → FirstNumber words from (Some (next * 64 + bit))
in_later_word count words summary from next bit kept none marked first = (
  omega (arith, marked.0),
  bit_in words (next * 64 + bit) next bit (omega (arith, first.1)) (omega (arith, first.1)) ∙ first.2,
  λ other at below. elim (cases_eq (other / 64) next) [
    | inl there ↦ bit_in words other next (other % 64) there refl ∙ first.3 (other % 64) (omega arith) (omega arith)
    | inr away ↦ clear_between count words summary from kept none other at (λ later low. marked.3 (other / 64) (omega arith) (omega (arith, first.1)))
  ],
)

-- a word that the summary has is there
pub marked_within : (count : ℕ) (words : List ℕ) (summary at : ℕ) → Kept count words summary → at < 64 → bit_at summary at ≡ 1 → at < length words
marked_within count words summary at kept low set = elim (cases_lt at (length words)) [
  | inl within ↦ within
  | inr past ↦ let clear = (kept.marked at low).1 (get_or_past words at 0 past) in absurd (omega arith)
]

-- and it has a bit
pub marked_some : (count : ℕ) (words : List ℕ) (summary at : ℕ) → Kept count words summary → at < 64 → bit_at summary at ≡ 1 → FirstBit (get_or words at 0) 0 None → ⊥
marked_some count words summary at kept low set none =
    let zero = zero_word count words summary at kept (λ bit within. none bit (omega arith) within) in
    let clear = (kept.marked at low).1 zero in
    omega arith

-- a set has no members where its summary is 0
pub empty_summary : (count : ℕ) (words : List ℕ) (summary : ℕ) → Kept count words summary → summary ≡ 0 → All (λ flag. flag ≡ false) (flags_of count words)
empty_summary count words summary kept is = λ number d within.
    let below : number < count = omega (arith, length_flags count words) in
    let clear = unmarked count words summary number kept (λ low. ap (λ n. bit_at n (number / 64)) is ∙ bit_at-zero (number / 64)) in
    flag_at count words number d below ∙ ap (λ b. b == 1) clear

pub summary_empty : (count : ℕ) (words : List ℕ) (summary : ℕ) → Kept count words summary → summary < 2 ^ 64 → All (λ flag. flag ≡ false) (flags_of count words) → summary ≡ 0
summary_empty count words summary kept fits all =
    let clear : (number : ℕ) → bit_of words number ≡ 0 = λ number. clear_bit words number (λ set.
    let below = kept.inside number set in
    let flag = flag_at count words number true below in
    let none = all number true (omega (arith, length_flags count words)) in
    true≢false (sym (ap (λ b. b == 1) set) ∙ sym flag ∙ none)) in
    same_from_bits_below 64 summary 0 fits (omega arith) (λ at low.
    (kept.marked at low).1 (zero_word count words summary at kept (λ bit small. sym (bit_in words (at * 64 + bit) at bit (omega arith) (omega arith)) ∙ clear (at * 64 + bit)))
    ∙ sym (bit_at-zero at))
