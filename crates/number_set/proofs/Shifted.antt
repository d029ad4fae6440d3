-- The bits of a word that is shifted down.
use Rattle.std.proofs.Common.{◌≡◌, ◌∙◌, ℕ, ◌+◌, ◌-◌, ◌/◌, ◌%◌, ◌<◌, ◌≤◌, ◌^◌, Some, ap, arith, inl, inr, sym, w64}
use Rattle.std.specs.Int.{bit_at, trailing_zeros}
use Rattle.std.proofs.lemmas.Bool.{cases_lt}
use Rattle.std.proofs.lemmas.Nat.{shr-shr}
use Rattle.std.proofs.lemmas.Nat.Bits.{bit_at-trailing_zeros, bit_at-zero, bit_at_above}
use Rattle.number_set.specs.Words.{FirstBit}

-- a bit of a word is one of the word shifted down
shifted : (word from bit : ℕ) → from ≤ bit → bit_at word bit ≡ bit_at (word / 2 ^ from) (bit - from)
shifted word from bit at = let e : from + (bit - from) ≡ bit = omega arith in sym (ap (λ n. n % 2) (shr-shr word from (bit - from)) ∙ ap (bit_at word) e)

-- a word that is 0 once it is shifted down has no bit from there on
pub none_past : (word from : ℕ) → word / 2 ^ from ≡ 0 → (bit : ℕ) → from ≤ bit → bit_at word bit ≡ 0
none_past word from zero bit at = shifted word from bit at ∙ ap (λ n. bit_at n (bit - from)) zero ∙ bit_at-zero (bit - from)

-- else its lowest bit is the first from there on
pub first_past : (word from : ℕ) → word < 2 ^ 64 → 0 < word / 2 ^ from → FirstBit word from (Some (from + trailing_zeros w64 (word / 2 ^ from)))
first_past word from fits some =
    let rest = word / 2 ^ from in
    let low : ℕ = trailing_zeros w64 rest in
    let less : rest < 2 ^ 64 = omega arith in
    let lowest = bit_at-trailing_zeros w64 rest some less in
    let at : from + low - from ≡ low = omega arith in
    let set : bit_at word (from + low) ≡ 1 = shifted word from (from + low) (omega arith) ∙ ap (bit_at rest) at ∙ lowest.1 in (
      omega arith,
      elim (cases_lt (from + low) 64) [ inl within ↦ within | inr past ↦ let clear = bit_at_above word 64 (from + low) fits past in absurd (omega arith) ],
      set,
      λ bit from_at below. shifted word from bit from_at ∙ lowest.2 (bit - from) (omega arith),
    )
