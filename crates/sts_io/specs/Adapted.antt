-- An end of std with a count of its faults.
use Rattle.std.specs.Prelude.{ℕ}

-- a reader or a writer of std, and how many of its calls failed
pub record Adapted (E : Type 0) : Type 0 where
  pub end : E
  pub faults : ℕ
