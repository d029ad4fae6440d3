-- The step of one entry that was taken out.
use Rattle.std.proofs.Common.{◌≡◌, true, false, length, ap, arith}
use Rattle.std.proofs.lemmas.List.Elements.{All-rest}
use Rattle.flow_table.specs.Entry.{IsValidEntry}
use Rattle.flow_table.specs.Expiry.{IsPast}
use Rattle.flow_table.specs.declared.entry.Entry.{Entry}
use Rattle.switch_core.specs.Step.{wants_removal}
use Rattle.switch_core.specs.declared.leaving.Leaving.TheVariants.{Told}
use Rattle.switch_core.specs.declared.leaving.News.TheVariants.{Removal}
use Rattle.switch_core.proofs.Sends.{next_told, next_untold}
use Rattle.switch_core.proofs.steps.tell_removed.Goals as goal

pub loop-entry-preserved-then-wants_removal : goal.loop-entry-preserved-then-wants_removal
loop-entry-preserved-then-wants_removal c =
    let i = c.loop-entry.invariant in
    let x = c.in-Some.entry in
    let next = c.in-Some.ensures.steps in
    let passes : wants_removal x ≡ true = cc in
    record {
      length = let long = ap length next.0 in omega arith;
      sent = next_told wants_removal (λ (entry : Entry). Told (Removal entry 2 c.args.now)) _ _ _ _ _ x next.0 passes c.tell_removal.ensures.sent i.sent;
      valid = All-rest IsValidEntry x _ _ next.0 i.valid;
      past = All-rest (IsPast c.args.now) x _ _ next.0 i.past;
      room = let long = ap length next.0 in omega arith;
    }

pub loop-entry-preserved : goal.loop-entry-preserved
loop-entry-preserved c =
    let i = c.loop-entry.invariant in
    let x = c.in-Some.entry in
    let next = c.in-Some.ensures.steps in
    let fails : wants_removal x ≡ false = cc in
    record {
      length = let long = ap length next.0 in omega arith;
      sent = next_untold wants_removal (λ (entry : Entry). Told (Removal entry 2 c.args.now)) _ _ _ _ x next.0 fails i.sent;
      valid = All-rest IsValidEntry x _ _ next.0 i.valid;
      past = All-rest (IsPast c.args.now) x _ _ next.0 i.past;
      room = let long = ap length next.0 in omega arith;
    }
