use Rattle.std.proofs.Common.{◌≡◌, ◌+◌, ◌≤◌, ◌++◌, All, length, filter, count_by, not, vec_len, vec_capacity}
use Rattle.std.specs.Vec.Iter.{into_iter_items, into_iter_len}
use Rattle.flow_table.specs.Entry.{IsValidEntry}
use Rattle.flow_table.specs.Going.{goes}
use Rattle.flow_table.proofs.change.part.Given as goal

-- what was moved stands before what will be, and there is room for it
abbrev pub invariant-loop-entry : goal.invariant-loop-entry
invariant-loop-entry l = record {
  length : into_iter_len l.entry-iterator ≡ length (into_iter_items l.entry-iterator);
  valid : All IsValidEntry (into_iter_items l.entry-iterator);
  kept : l.kept.items ++ filter (λ entry. not (goes l.going entry)) (into_iter_items l.entry-iterator)
      ≡ l.fn.kept.items ++ filter (λ entry. not (goes l.going entry)) l.fn.entries.items;
  removed : l.removed.items ++ filter (goes l.going) (into_iter_items l.entry-iterator)
      ≡ l.fn.removed.items ++ filter (goes l.going) l.fn.entries.items;
  kept_room : vec_len l.kept + into_iter_len l.entry-iterator ≤ vec_capacity l.kept;
  removed_room : vec_len l.removed + count_by (goes l.going) (into_iter_items l.entry-iterator) ≤ vec_capacity l.removed;
  room : vec_capacity l.fn.kept ≤ vec_capacity l.kept;
}
