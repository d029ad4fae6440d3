use Rattle.std.proofs.Common.{◌≡◌, ◌≤◌, All, filter, length, map}
use Rattle.std.specs.Vec.Iter.{into_iter_items, into_iter_len}
use Rattle.flow_table.specs.Entry.{IsValidEntry}
use Rattle.switch_core.specs.Leaving.{leave_all}
use Rattle.switch_core.specs.Step.{wants_removal}
use Rattle.switch_core.specs.declared.leaving.Leaving.TheVariants.{Told}
use Rattle.switch_core.specs.declared.leaving.News.TheVariants.{Removal}
use Rattle.switch_core.proofs.steps.tell_gone.Given as goal

-- what was told, with what will be told of the entries that are left, is what all tell, and there is room for them
abbrev pub invariant-loop-entry : goal.invariant-loop-entry
invariant-loop-entry l = record {
  length : into_iter_len l.entry-iterator ≡ length (into_iter_items l.entry-iterator);
  sent : leave_all l.sending.sent (map (λ late. Told (Removal late.0 late.1 l.now)) (filter (λ late. wants_removal late.0) (into_iter_items l.entry-iterator)))
      ≡ leave_all l.fn.sending.sent (map (λ late. Told (Removal late.0 late.1 l.now)) (filter (λ late. wants_removal late.0) l.fn.gone));
  valid : All (λ late. IsValidEntry late.0) (into_iter_items l.entry-iterator);
  past : All (λ late. late.0.added ≤ l.now) (into_iter_items l.entry-iterator);
  room : into_iter_len l.entry-iterator ≤ l.sending.spare;
}
