use Rattle.std.proofs.Common.{◌≡◌, ◌++◌, All, count_by, drop, map, take, vec_len}
use Rattle.flow_table.specs.Command.{is_named}
use Rattle.flow_table.specs.Command.{with_actions}
use Rattle.flow_table.proofs.change.put_actions.Given as goal

-- the entries so far have been changed, and there is a copy for each of the others that is named
abbrev pub invariant-loop-entry : goal.invariant-loop-entry
invariant-loop-entry l = record {
  entries : l.entries ≡ map (with_actions l.how l.mods) (take l.entry-index l.fn.entries) ++ drop l.entry-index l.fn.entries;
  count : vec_len l.copies ≡ count_by (is_named l.how l.mods) (drop l.entry-index l.fn.entries);
  copies : All (λ actions. actions ≡ l.mods.actions) l.copies.items;
}
