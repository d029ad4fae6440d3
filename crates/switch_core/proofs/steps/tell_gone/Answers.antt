-- The step of one entry that ran out.
use Rattle.std.proofs.Common.{◌≡◌, ◌≤◌, ℕ, true, false, length, ap, arith}
use Rattle.std.proofs.lemmas.List.Elements.{All-rest}
use Rattle.flow_table.specs.Entry.{IsValidEntry}
use Rattle.flow_table.specs.declared.entry.Entry.{Entry}
use Rattle.switch_core.specs.Step.{wants_removal}
use Rattle.switch_core.specs.declared.leaving.Leaving.TheVariants.{Told}
use Rattle.switch_core.specs.declared.leaving.News.TheVariants.{Removal}
use Rattle.switch_core.proofs.Sends.{next_told, next_untold}
use Rattle.switch_core.proofs.steps.tell_gone.Goals as goal

pub loop-entry-preserved-then-wants_removal : goal.loop-entry-preserved-then-wants_removal
loop-entry-preserved-then-wants_removal c =
    let i = c.loop-entry.invariant in
    let x : Entry × ℕ = (c.in-Some.entry, c.in-Some.reason) in
    let next = c.in-Some.ensures.steps in
    let passes : wants_removal c.in-Some.entry ≡ true = cc in
    record {
      length = let long = ap length next.0 in omega arith;
      sent = next_told (λ (late : Entry × ℕ). wants_removal late.0) (λ (late : Entry × ℕ). Told (Removal late.0 late.1 c.args.now)) _ _ _ _ _ x next.0 passes
          c.tell_removal.ensures.sent i.sent;
      valid = All-rest (λ (late : Entry × ℕ). IsValidEntry late.0) x _ _ next.0 i.valid;
      past = All-rest (λ (late : Entry × ℕ). late.0.added ≤ c.args.now) x _ _ next.0 i.past;
      room = let long = ap length next.0 in omega arith;
    }

pub loop-entry-preserved : goal.loop-entry-preserved
loop-entry-preserved c =
    let i = c.loop-entry.invariant in
    let x : Entry × ℕ = (c.in-Some.entry, c.in-Some.reason) in
    let next = c.in-Some.ensures.steps in
    let fails : wants_removal c.in-Some.entry ≡ false = cc in
    record {
      length = let long = ap length next.0 in omega arith;
      sent = next_untold (λ (late : Entry × ℕ). wants_removal late.0) (λ (late : Entry × ℕ). Told (Removal late.0 late.1 c.args.now)) _ _ _ _ x next.0 fails i.sent;
      valid = All-rest (λ (late : Entry × ℕ). IsValidEntry late.0) x _ _ next.0 i.valid;
      past = All-rest (λ (late : Entry × ℕ). late.0.added ≤ c.args.now) x _ _ next.0 i.past;
      room = let long = ap length next.0 in omega arith;
    }
