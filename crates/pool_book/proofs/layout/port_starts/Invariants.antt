use Rattle.std.proofs.Common.{◌≡◌, ℕ, ◌+◌, ◌≤◌, length}
use Rattle.std.specs.Prelude.{slice_index_or}
use Rattle.pool_book.specs.Places.{port_start}
use Rattle.pool_book.proofs.layout.port_starts.Given as goal

abbrev pub invariant-loop-count : goal.invariant-loop-count
invariant-loop-count l = record {
  next : l.next ≡ port_start l.ports l.count-index;
  count : length l.starts.items ≡ l.count-index + 1;
  each : (s : ℕ) → s ≤ l.count-index → slice_index_or l.starts.items s 0 ≡ port_start l.ports s;
}
