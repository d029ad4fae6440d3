-- Closed intervals of numbers.
use Rattle.std.specs.Prelude.{◌<◌, ◌≤◌, ◌^◌, ◌&&◌, ℕ, Bool, false, Option, Some, None, nat_le}
use Rattle.header_classes.specs.declared.interval.Interval.{Interval}

-- a number is not below the low end and not above the high one
abbrev pub within : Interval → ℕ → Bool
within interval x = nat_le interval.low x && nat_le x interval.high

-- there is an interval, and the number is within it
abbrev pub within_some : Option Interval → ℕ → Bool
within_some None x = false
within_some (Some interval) x = within interval x

-- an interval of numbers of so many bits, at least one
pub record IsInterval (bits : ℕ) (interval : Interval) : Type 0 where
  pub ordered : interval.low ≤ interval.high
  pub fits : interval.high < 2 ^ bits

-- an interval that has a number, and none that the outer one has not
pub record IsInner (outer inner : Interval) : Type 0 where
  pub ordered : inner.low ≤ inner.high
  pub low : outer.low ≤ inner.low
  pub high : inner.high ≤ outer.high
