-- What is drawn from a seed: numbers, and what they decide, one draw after another.
use Rattle.std.specs.Prelude.{ℕ, ◌+◌, ◌*◌, ◌/◌, ◌%◌, ◌^◌}

-- something that is drawn, and the state in which that leaves the generator
pub record Drawn (A : Type 0) : Type 0 where
  pub got : A
  pub state : ℕ

-- what is drawn depends on the state alone
abbrev pub Draw : Type 0 → Type 0
Draw A = ℕ → Drawn A

-- nothing is drawn for it
abbrev pub given : {A : Type 0} → A → Draw A
given x = λ state. record { got = x; state = state }

-- one draw after another, which may depend on what the first one got
infixl 10 ◌>>=◌
abbrev pub ◌>>=◌ : {A B : Type 0} → Draw A → (A → Draw B) → Draw B
first >>= next = λ state. next (first state).got (first state).state

-- the next state of a linear congruential generator modulo 2^64, with the constants of Knuth's MMIX
abbrev pub next_state : ℕ → ℕ
next_state state = (state * 6364136223846793005 + 1442695040888963407) % 2 ^ 64

-- a number below m: the high 31 bits of the next state, modulo m
abbrev pub below : ℕ → Draw ℕ
below m = λ state. record { got = next_state state / 2 ^ 33 % m; state = next_state state }
