use Rattle.std.proofs.Common.{◌≡◌, ◌+◌, ◌≤◌, ◌++◌, length, map, vec_len, vec_capacity}
use Rattle.std.specs.Vec.Iter.{into_iter_items, into_iter_len}
use Rattle.flow_table.specs.Expiry.{reason_of}
use Rattle.flow_table.proofs.change.put_gone.Given as goal

-- what was added stands before what will be, and there is room for it
abbrev pub invariant-loop-entry : goal.invariant-loop-entry
invariant-loop-entry l = record {
  length : into_iter_len l.entry-iterator ≡ length (into_iter_items l.entry-iterator);
  added : l.gone.items ++ map (λ entry. (entry, reason_of l.now entry)) (into_iter_items l.entry-iterator)
      ≡ l.fn.gone.items ++ map (λ entry. (entry, reason_of l.now entry)) l.fn.entries.items;
  room : vec_len l.gone + into_iter_len l.entry-iterator ≤ vec_capacity l.gone;
}
