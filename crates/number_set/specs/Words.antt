-- How the words and the summary of a set stand for its flags.
use Rattle.std.specs.Prelude.{◌≡◌, ◌↔◌, ℕ, ◌*◌, ◌/◌, ◌%◌, ◌<◌, ◌≤◌, ◌^◌, Bool, List, length, map, get_or, ◌==◌, Option, None, Some}
use Rattle.std.specs.List.{range_with_len}
use Rattle.std.specs.Int.{bit_at}

-- the least bit of a word that is set, at or past a place
abbrev pub FirstBit : ℕ → ℕ → Option ℕ → Type 0
FirstBit word from None = (bit : ℕ) → from ≤ bit → bit < 64 → bit_at word bit ≡ 0
FirstBit word from (Some at) = (from ≤ at) × (at < 64) × (bit_at word at ≡ 1) × ((bit : ℕ) → from ≤ bit → bit < at → bit_at word bit ≡ 0)

-- the bit of a number: 64 numbers lie in each word, the least of them lowest
unfoldable pub bit_of : List ℕ → ℕ → ℕ
bit_of words number = bit_at (get_or words (number / 64) 0) (number % 64)

-- the flags of the numbers below a count
unfoldable pub flags_of : ℕ → List ℕ → List Bool
flags_of count words = map (λ number. bit_of words number == 1) (range_with_len 0 count)

-- The words have room for the count, no bit past it is set, and the summary has a bit for each word that is not 0.
pub record Kept (count : ℕ) (words : List ℕ) (summary : ℕ) : Type 0 where
  pub few : length words ≤ 64
  pub room : count ≤ length words * 64
  pub fit : (at : ℕ) → get_or words at 0 < 2 ^ 64
  pub inside : (number : ℕ) → bit_of words number ≡ 1 → number < count
  pub marked : (at : ℕ) → at < 64 → (bit_at summary at ≡ 0) ↔ (get_or words at 0 ≡ 0)
