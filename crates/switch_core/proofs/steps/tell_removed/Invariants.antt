use Rattle.std.proofs.Common.{◌≡◌, ◌≤◌, All, filter, length, map}
use Rattle.std.specs.Vec.Iter.{into_iter_items, into_iter_len}
use Rattle.flow_table.specs.Entry.{IsValidEntry}
use Rattle.flow_table.specs.Expiry.{IsPast}
use Rattle.switch_core.specs.Leaving.{leave_all}
use Rattle.switch_core.specs.Step.{wants_removal}
use Rattle.switch_core.specs.declared.leaving.Leaving.TheVariants.{Told}
use Rattle.switch_core.specs.declared.leaving.News.TheVariants.{Removal}
use Rattle.switch_core.proofs.steps.tell_removed.Given as goal

-- what was told, with what will be told of the entries that are left, is what all tell, and there is room for them
abbrev pub invariant-loop-entry : goal.invariant-loop-entry
invariant-loop-entry l = record {
  length : into_iter_len l.entry-iterator ≡ length (into_iter_items l.entry-iterator);
  sent : leave_all l.sending.sent (map (λ entry. Told (Removal entry 2 l.now)) (filter wants_removal (into_iter_items l.entry-iterator)))
      ≡ leave_all l.fn.sending.sent (map (λ entry. Told (Removal entry 2 l.now)) (filter wants_removal l.fn.removed));
  valid : All IsValidEntry (into_iter_items l.entry-iterator);
  past : All (IsPast l.now) (into_iter_items l.entry-iterator);
  room : into_iter_len l.entry-iterator ≤ l.sending.spare;
}
