-- The order in which the entries of a table are tried.
use Rattle.std.specs.Prelude.{◌≡◌, ◌≤◌, ◌<◌, ℕ, All, AllPairs, Contains, List, length, slice_get, Some}
use Rattle.std.specs.declared.cmp.Reverse.{Reverse}
use Rattle.flow_table.specs.Entry.{rank}
use Rattle.flow_table.specs.declared.entry.Entry.{Entry}

-- a rank and a place are those of an entry of the table
pub record IsRanked (entries : List Entry) (ranked : Reverse ℕ × ℕ) : Type 0 where
  pub entry : Entry
  pub here : slice_get entries ranked.1 ≡ Some entry
  pub ranks : rank entry ≡ ranked.0.0

-- One is not beaten by another: its rank is greater, or the ranks are equal and its place is not later.
pub record IsUnbeaten (one other : Reverse ℕ × ℕ) : Type 0 where
  pub rank : other.0.0 ≤ one.0.0
  pub place : one.0.0 ≡ other.0.0 → one.1 ≤ other.1

-- the entries of a table in the order in which they are tried: each of them, and none before one that beats it
pub record IsOrder (entries : List Entry) (order : List (Reverse ℕ × ℕ)) : Type 0 where
  pub ranked : All (IsRanked entries) order
  pub every : (place : ℕ) → place < length entries → (rank : Reverse ℕ) × Contains order (rank, place)
  pub unbeaten : AllPairs IsUnbeaten order
