-- What a count of faults says of one call: the cause of a failure, and that none was passed over.
use Rattle.std.specs.Prelude.{◌≡◌, ℕ, ◌+◌, ◌-◌, ◌^◌, ◌≤◌, min, max, Result, OnOk, OnErr}

-- the count rose in this call, or stands at the last value of a 64-bit counter
abbrev pub Rose : ℕ → ℕ → Type 0
Rose before now = min (before + 1) (2 ^ 64 - 1) ≤ now

-- a 64-bit counter after one more, which stands still at its last value
abbrev pub counted : ℕ → ℕ
counted n = max n (min (n + 1) (2 ^ 64 - 1))

-- the count never falls, a failure comes only where it rose, and success only where it stayed
pub record HasCause {T E : Type 0} (before now : ℕ) (result : Result T E) : Type 0 where
  pub later : before ≤ now
  pub failed : OnErr result (Rose before now)
  pub kept : OnOk result (now ≡ before)
