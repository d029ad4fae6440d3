use Rattle.std.proofs.Common.{◌≡◌, All, count_by, take, vec_len}
use Rattle.flow_table.specs.Command.{is_named}
use Rattle.flow_table.proofs.change.copies_for.Given as goal

-- there is a copy for each entry so far that is named
abbrev pub invariant-loop-entry : goal.invariant-loop-entry
invariant-loop-entry l = record {
  count : vec_len l.copies ≡ count_by (is_named l.how l.mods) (take l.entry-index l.entries);
  copies : All (λ actions. actions ≡ l.mods.actions) l.copies.items;
}
