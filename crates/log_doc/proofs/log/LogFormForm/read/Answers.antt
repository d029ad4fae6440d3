use Rattle.std.proofs.Common.{◌≡◌, ℕ, List, Result, Ok, Err, subst, sym}
use Rattle.std.specs.Prelude.{codes, ⊤}
use Rattle.doc_forms.specs.Reading.{Gives, Reading, under}
use Rattle.doc_forms.specs.declared.fail.DocFail.{DocFail}
use Rattle.doc_forms.specs.declared.fail.DocFail.TheVariants.{OutOfMemory, Refused}
use Rattle.scenario_doc.specs.Rules.{draft_rules}
use Rattle.scenario_doc.specs.WrittenScenario.{IsWritable}
use Rattle.log_doc.proofs.log.LogFormForm.read.Goals as goal

-- rules that were tried of a part of a value, and not broken, are kept
kept_below : (step : List ℕ) (found : Result ⊤ DocFail) (rules : Reading ⊤) (x : ⊤) → Gives found rules → under step found ≡ Ok x → rules ≡ Ok tt
kept_below step (Ok y) rules x gives e = gives
kept_below step (Err (Refused number path)) rules x gives e = absurd cc
kept_below step (Err OutOfMemory) rules x gives e = absurd cc

pub returns-clause-holds : goal.returns-clause-holds
returns-clause-holds c =
    let kept : draft_rules c.in_ok-draft.draft ≡ Ok tt = kept_below (codes "scenario") c.check.result (draft_rules c.in_ok-draft.draft) c.in_ok-below-2.field-0 c.check.ensures.rules c.in_ok-below-2.ensures in
    let writable : IsWritable c.in_ok-made.field-0 =
    subst IsWritable (sym c.in_ok-made.ensures.made) (c.a_draft_that_keeps_its_rules_can_be_written.ensures c.in_ok-draft.draft c.in_ok-draft.ensures.holds kept) in
    (c.in_ok-made.ensures.valid, c.in_ok-made.ensures.invariants, writable, c.in_ok-entries.ensures.holds)
