-- What was taken from a source that tells its bytes: a prefix of what was left, and how long it is.
use Rattle.std.specs.Prelude.{◌≡◌, ℕ, ◌≤◌, List, length}
use Rattle.std.specs.Io.KnownBytes.{Consumes}
use Rattle.std.specs.declared.option.Option.{Option}

-- a prefix of at most `most` bytes was taken, and no other byte
pub record TakesAtMost (most : ℕ) (old new : Option (List ℕ)) : Type 0 where
  pub bytes : List ℕ
  pub prefix : Consumes old new bytes
  pub within : length bytes ≤ most

-- a prefix of `count` bytes was taken, and no other byte
pub record TakesCount (count : ℕ) (old new : Option (List ℕ)) : Type 0 where
  pub bytes : List ℕ
  pub prefix : Consumes old new bytes
  pub counted : length bytes ≡ count
