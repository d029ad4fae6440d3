use Rattle.std.proofs.Common.{◌≡◌, ◌<◌, true, false, get_or, length, ap, ◌∙◌, arith}
use Rattle.std.proofs.lemmas.List.{drop_more}
use Rattle.std.proofs.lemmas.List.Elements.{All-pop}
use Rattle.flow_table.specs.Command.{is_named}
use Rattle.flow_table.specs.Command.{with_actions}
use Rattle.flow_table.proofs.Changes.{changed_one, counted_one, given, not_given, uncounted_one, behind_changed}
use Rattle.flow_table.proofs.change.put_actions.Goals as goal
use Rattle.flow_table.proofs.change.put_actions.Goals.{then-is_named+in-Some, then-is_named+in_default, else-is_named}

pub loop-entry-preserved : goal.loop-entry-preserved
loop-entry-preserved c =
    let how = c.args.how in
    let mods = c.args.mods.now in
    let xs = c.args.entries.now in
    let ys = c.loop-entry.entries in
    let at = c.loop-entry.entry-index in
    let x = c.entry-item.result in
    let so_far = c.loop-entry.invariant.entries in
    let within : at < length xs = c.loop-entry-test.true in
    let first = drop_more xs at x within in
    let same : x ≡ get_or xs at x = c.entry-item.is ∙ ap (λ l. get_or l at x) so_far ∙ behind_changed (with_actions how mods) xs at x within in
    elim c.if-is_named.branch [
      | then-is_named+in-Some w ↦
          let named : is_named how mods (get_or ys at x) ≡ true = cc in
          let popped = All-pop (λ actions. actions ≡ mods.actions) _ _ _ w.pop.ensures.items c.loop-entry.invariant.copies in
          let actions : w.in-Some.actions ≡ mods.actions = rw w.in-Some.is at popped.1 in
          let counted = counted_one (is_named how mods) _ _ _ first (cc) in
          let shorter = rw w.in-Some.is at w.pop.ensures.cases in
          record {
            entries = changed_one (with_actions how mods) xs ys _ at x _ so_far within w.entries-is (given how mods (get_or ys at x) w.in-Some.actions named actions);
            count = rw w.copies-is (omega arith);
            copies = rw w.copies-is popped.0;
          }
      | then-is_named+in_default w ↦
          let counted = counted_one (is_named how mods) _ _ _ first (cc) in
          let empty = rw w.in_default.is at w.pop.ensures.cases in
          absurd (omega arith)
      | else-is_named w ↦
          let other : is_named how mods (get_or ys at x) ≡ false = cc in
          let counted = uncounted_one (is_named how mods) _ _ _ first (cc) in
          record {
            entries = changed_one (with_actions how mods) xs ys _ at x _ so_far within w.entries-is (not_given how mods (get_or ys at x) other);
            count = rw w.copies-is (omega arith);
            copies = rw w.copies-is c.loop-entry.invariant.copies;
          }
    ]
