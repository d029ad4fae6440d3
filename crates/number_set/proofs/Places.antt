-- The bits of the numbers, as flags.
use Rattle.std.proofs.Common.{◌≡◌, ◌≢◌, ◌↔◌, ◌∙◌, not, nat_eq, zero, suc, ◌==◌, ℕ, ◌*◌, ◌/◌, ◌%◌, ◌<◌, ◌≤◌, ◌^◌, Bool, true, false, cond, List, length, get_or, set, replicate, slice_get, Some, ap, arith, inl, inr, refl, subst, sym, get_or-set_other, get_or-set_same, length-set}
use Rattle.std.specs.Int.{bit_at}
use Rattle.std.proofs.lemmas.Bool.{cases_eq, cases_lt, eq-eqb, eqb-true, ne_eqb}
use Rattle.std.proofs.lemmas.List.{get_or-replicate, get_or_past, get_or_read, length-replicate, same_lists}
use Rattle.std.proofs.lemmas.List.FromFn.{get_or-map-range_with_len, length-map-range_with_len}
use Rattle.std.proofs.lemmas.Nat.Bits.{bit_at-lt, bit_at-zero, same_from_bits_below}
use Rattle.std.proofs.lemmas.Option.{slice_get-get_or, slice_get_within}
use Rattle.number_set.specs.Words.{Kept, bit_of, flags_of}

-- a number's bit, in the word that has it
pub bit_in : (words : List ℕ) (number at bit : ℕ) → number / 64 ≡ at → number % 64 ≡ bit → bit_of words number ≡ bit_at (get_or words at 0) bit
unfolding bit_of
bit_in words number at bit same place = ap (λ w. bit_at (get_or words w 0) (number % 64)) same ∙ ap (bit_at (get_or words at 0)) place

-- there is a flag for each number below the count
pub length_flags : (count : ℕ) (words : List ℕ) → length (flags_of count words) ≡ count
unfolding flags_of
length_flags count words = length-map-range_with_len (λ number. bit_of words number == 1) 0 count

pub flag_at : (count : ℕ) (words : List ℕ) (number : ℕ) (d : Bool) → number < count → get_or (flags_of count words) number d ≡ (bit_of words number == 1)
unfolding flags_of
flag_at count words number d below = get_or-map-range_with_len (λ number. bit_of words number == 1) 0 count number number d below (omega arith)

-- a number below the flags' length is below the count, and its word is there
pub below_count : (count : ℕ) (words : List ℕ) (flags : List Bool) (number : ℕ) → flags_of count words ≡ flags → number < length flags → number < count
below_count count words flags number is below = omega (arith, length_flags count words, ap length is)

pub word_within : (count : ℕ) (words : List ℕ) (summary number : ℕ) → Kept count words summary → number < count → number / 64 < length words
word_within count words summary number kept below = omega (arith, kept.room)

-- a number is a member where its bit is set
pub member_bit : (count : ℕ) (words : List ℕ) (number : ℕ) → slice_get (flags_of count words) number ≡ Some true → bit_of words number ≡ 1
member_bit count words number is =
    let within = slice_get_within (flags_of count words) number true is in
    let below : number < count = omega (arith, length_flags count words) in
    let here = slice_get-get_or (flags_of count words) number true within in
    let flag = flag_at count words number true below in
    eqb-true (bit_of words number) 1 cc

pub bit_member : (count : ℕ) (words : List ℕ) (number : ℕ) → number < count → bit_of words number ≡ 1 → slice_get (flags_of count words) number ≡ Some true
bit_member count words number below set =
    let here = slice_get-get_or (flags_of count words) number true (omega (arith, length_flags count words)) in
    let flag = flag_at count words number true below in
    let yes = eq-eqb (bit_of words number) 1 set in
    here ∙ ap Some (flag ∙ yes)

-- so whether a number is a member is read in its word, or there is no such word
pub member_read : (count : ℕ) (words : List ℕ) (summary number word : ℕ) (flags : List Bool) → Kept count words summary → flags_of count words ≡ flags → number / 64 < length words → word ≡ get_or words (number / 64) word
    → (bit_at word (number % 64) ≡ 1) ↔ (slice_get flags number ≡ Some true)
member_read count words summary number word flags kept is within read =
    let here : bit_of words number ≡ bit_at word (number % 64) = bit_in words number (number / 64) (number % 64) refl refl ∙ ap (λ w. bit_at w (number % 64)) (sym (get_or_read words (number / 64) word within read 0)) in
    rw (← is) (λ set. let one = here ∙ set in bit_member count words number (kept.inside number one) one, λ member. sym here ∙ member_bit count words number member)

pub no_member : (count : ℕ) (words : List ℕ) (summary number : ℕ) (flags : List Bool) → Kept count words summary → flags_of count words ≡ flags → length words ≤ number / 64 → slice_get flags number ≢ Some true
no_member count words summary number flags kept is past member =
    let below = below_count count words flags number is (slice_get_within flags number true member) in
    let within = word_within count words summary number kept below in
    omega arith

-- what a bit is that is not set
pub clear_bit : (words : List ℕ) (number : ℕ) → bit_of words number ≢ 1 → bit_of words number ≡ 0
unfolding bit_of
clear_bit words number not = let small = bit_at-lt (get_or words (number / 64) 0) (number % 64) in omega arith

-- words that differ in the bit of one number alone
pub record Changes (words after : List ℕ) (number bit : ℕ) : Type 0 where
  pub same : bit_of after number ≡ bit
  pub others : (other : ℕ) → other ≢ number → bit_of after other ≡ bit_of words other

-- to write one bit of a word changes one number's bit
pub changes : (words : List ℕ) (number old word bit : ℕ) → number / 64 < length words → old ≡ get_or words (number / 64) old → bit_at word (number % 64) ≡ bit
    → ((place : ℕ) → place < 64 → place ≢ number % 64 → bit_at word place ≡ bit_at old place) → Changes words (set words (number / 64) word) number bit
changes words number old word bit within read same others =
    let after = set words (number / 64) word in
    let written : get_or after (number / 64) 0 ≡ word = get_or-set_same words (number / 64) word 0 within in
    record {
      same = bit_in after number (number / 64) (number % 64) refl refl ∙ ap (λ w. bit_at w (number % 64)) written ∙ same;
      others = λ other apart. elim (cases_eq (other / 64) (number / 64)) [
        | inl beside ↦
            let elsewhere : other % 64 ≢ number % 64 = λ e. apart (omega arith) in
            bit_in after other (number / 64) (other % 64) beside refl ∙ ap (λ w. bit_at w (other % 64)) written ∙ others (other % 64) (omega arith) elsewhere
            ∙ ap (λ w. bit_at w (other % 64)) (get_or_read words (number / 64) old within read 0) ∙ sym (bit_in words other (number / 64) (other % 64) beside refl)
        | inr away ↦
            bit_in after other (other / 64) (other % 64) refl refl ∙ ap (λ w. bit_at w (other % 64)) (get_or-set_other words (number / 64) (other / 64) word 0 away)
            ∙ sym (bit_in words other (other / 64) (other % 64) refl refl)
      ];
    }

bit_flag : (on : Bool) → (cond on 1 0 == 1) ≡ on
bit_flag true = refl
bit_flag false = refl

-- so it changes one flag
pub flags_changed : (count : ℕ) (words after : List ℕ) (number : ℕ) (on : Bool) → number < count → Changes words after number (cond on 1 0) → flags_of count after ≡ set (flags_of count words) number on
flags_changed count words after number on below change =
    same_lists (flags_of count after) (set (flags_of count words) number on) (length_flags count after ∙ sym (length_flags count words) ∙ sym (length-set (flags_of count words) number on))
    (λ other d within.
    let low : other < count = omega (arith, length_flags count after) in
    elim (cases_eq other number) [
      | inl same ↦
          let written = get_or-set_same (flags_of count words) number on d (omega (arith, length_flags count words)) in
          let flag = flag_at count after number d below in
          subst (λ n. get_or (flags_of count after) n d ≡ get_or (set (flags_of count words) number on) n d) (sym same)
          (flag ∙ ap (λ b. b == 1) change.same ∙ bit_flag on ∙ sym written)
      | inr apart ↦
          flag_at count after other d low ∙ ap (λ b. b == 1) (change.others other apart) ∙ sym (flag_at count words other d low)
          ∙ sym (get_or-set_other (flags_of count words) number other on d apart)
    ])

-- a summary's bit that is written as the word is other than 0
mark_of : (mark word : ℕ) → mark ≡ cond (not (nat_eq word 0)) 1 0 → (mark ≡ 0) ↔ (word ≡ 0)
mark_of mark zero is = (λ _. refl, λ _. is)
mark_of mark (suc word) is =
    let one : cond {A = ℕ} (not (nat_eq (suc word) 0)) 1 0 ≡ 1 = ap {B = ℕ} (λ b. cond (not b) 1 0) (ne_eqb (suc word) 0 (λ e. omega arith)) in
    (λ e. absurd (omega arith), λ e. absurd (omega arith))

-- the invariant after one bit is written
pub kept_after : (count : ℕ) (words : List ℕ) (summary number word mark : ℕ) (on : Bool) → Kept count words summary → number < count → word < 2 ^ 64 → Changes words (set words (number / 64) word) number (cond on 1 0)
    → bit_at mark (number / 64) ≡ cond (not (nat_eq word 0)) 1 0 → ((at : ℕ) → at < 64 → at ≢ number / 64 → bit_at mark at ≡ bit_at summary at) → Kept count (set words (number / 64) word) mark
kept_after count words summary number word mark on kept below fits change here others =
    let long = length-set words (number / 64) word in
    let written = get_or-set_same words (number / 64) word 0 (word_within count words summary number kept below) in
    record {
      few = omega (arith, kept.few);
      room = omega (arith, kept.room);
      fit = λ at. elim (cases_eq at (number / 64)) [
        | inl same ↦ subst (λ n. get_or (set words (number / 64) word) n 0 < 2 ^ 64) (sym same) (rw written fits)
        | inr apart ↦ rw (get_or-set_other words (number / 64) at word 0 apart) (kept.fit at)
      ];
      inside = λ other is. elim (cases_eq other number) [ inl same ↦ omega arith | inr apart ↦ kept.inside other (sym (change.others other apart) ∙ is) ];
      marked = λ at low. elim (cases_eq at (number / 64)) [
        | inl same ↦ subst (λ n. (bit_at mark n ≡ 0) ↔ (get_or (set words (number / 64) word) n 0 ≡ 0)) (sym same) (rw written (mark_of (bit_at mark (number / 64)) word here))
        | inr apart ↦ rw (others at low apart, get_or-set_other words (number / 64) at word 0 apart) (kept.marked at low)
      ];
    }

-- a word whose bits are all clear is 0
pub zero_word : (count : ℕ) (words : List ℕ) (summary at : ℕ) → Kept count words summary → ((bit : ℕ) → bit < 64 → bit_at (get_or words at 0) bit ≡ 0) → get_or words at 0 ≡ 0
zero_word count words summary at kept clear =
    same_from_bits_below 64 (get_or words at 0) 0 (kept.fit at) (omega arith) (λ bit low. clear bit low ∙ sym (bit_at-zero bit))

-- words that are all 0
abbrev pub zero_words : ℕ → List ℕ
zero_words long = replicate long 0

zeros : (long at : ℕ) → get_or (zero_words long) at 0 ≡ 0
zeros long at = elim (cases_lt at long) [ inl within ↦ get_or-replicate long at 0 0 within | inr past ↦ get_or_past (zero_words long) at 0 (omega (arith, length-replicate {A = ℕ} long 0)) ]

zero_bits : (long number : ℕ) → bit_of (zero_words long) number ≡ 0
zero_bits long number =
    bit_in (zero_words long) number (number / 64) (number % 64) refl refl ∙ ap (λ w. bit_at w (number % 64)) (zeros long (number / 64)) ∙ bit_at-zero (number % 64)

-- their flags are all clear
pub flags_none : (count long : ℕ) → flags_of count (zero_words long) ≡ replicate count false
flags_none count long =
    same_lists (flags_of count (zero_words long)) (replicate count false) (length_flags count (zero_words long) ∙ sym (length-replicate count false))
    (λ number d within.
    let below : number < count = omega (arith, length_flags count (zero_words long)) in
    flag_at count (zero_words long) number d below ∙ ap (λ b. b == 1) (zero_bits long number) ∙ sym (get_or-replicate count number false d below))

pub kept_none : (count long : ℕ) → count ≤ 4096 → count ≤ long * 64 → long ≤ 64 → Kept count (zero_words long) 0
kept_none count long few room within = record {
  few = omega (arith, length-replicate {A = ℕ} long 0);
  room = omega (arith, length-replicate {A = ℕ} long 0);
  fit = λ at. rw (zeros long at) (omega arith);
  inside = λ number is. let clear = zero_bits long number in absurd (omega arith);
  marked = λ at low. (λ _. zeros long at, λ _. bit_at-zero at);
}
