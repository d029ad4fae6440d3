-- A log has one finding, and a made-up scenario one summary.
use Rattle.std.proofs.Common.{◌≡◌, ℕ, ◌++◌, List, sym, ◌∙◌, ap, ap₂, subst}
use Rattle.machine_setup.specs.declared.setup.Setup.{Setup}
use Rattle.event_machine.specs.Rule.{IsOneThreadRun}
use Rattle.event_machine.specs.declared.trace.Entry.{Entry}
use Rattle.event_machine.specs.declared.trace.Trace.{Trace}
use Rattle.controller_host.specs.Hosting.{Hosting, hosting, starting}
use Rattle.scenario_doc.specs.declared.scenario.Scenario.{Scenario}
use Rattle.log_doc.specs.Written.{log_text}
use Rattle.log_doc.specs.declared.log.Log.{Log}
use Rattle.report_text.specs.Events.{line_feed}
use Rattle.sts_cli.specs.Finding.{IsFinding, IsMade, made_scenario}
use Rattle.sts_cli.specs.Lines.{made_line, run_line}
use Rattle.sts_cli.specs.Sequences.{IsJudgement}
use Rattle.sts_cli.specs.declared.sequence.Telling.TheVariants.{Counts, Whole}
use Rattle.sts_cli.proofs.OneConclusion.{IsJudgedOnce, IsReducedOnce, one_judgement}

-- a setup has at most one run of one thread
abbrev IsRunOnce : Type 0
IsRunOnce = (setup : Setup Hosting) (one other : Trace) → IsOneThreadRun hosting starting setup one → IsOneThreadRun hosting starting setup other → one ≡ other

module _ (judged : IsJudgedOnce) (reduced : IsReducedOnce) where
  -- the line and the judgement of a log are one
  pub one_finding : (tells : Setup Hosting → List Entry → Type 0) (scenario : Scenario) (code other : ℕ) (text more : List ℕ) (one : IsFinding tells scenario code text) (two : IsFinding tells scenario other more)
      → one.log ≡ two.log → (code ≡ other) × (text ≡ more)
  one_finding tells scenario code other text more one two same =
      let line : one.line ≡ two.line = one.written.0 ∙ ap (λ (log : Log). log_text log ++ line_feed) same ∙ sym two.written.0 in
      let trace : two.log.trace ≡ one.log.trace = sym (ap (λ (log : Log). log.trace) same) in
      let judgement = subst (λ (t : Trace). IsJudgement Whole scenario t other two.rest) trace two.judgement in
      let said = one_judgement reduced judged Whole scenario one.log.trace code other one.rest two.rest one.judgement judgement in
      (said.0, one.told ∙ ap₂ (λ (front rest : List ℕ). front ++ rest) line said.1 ∙ sym two.told)

  -- a made-up scenario has one run, and so one summary
  pub one_summary : IsRunOnce → (seed size code other : ℕ) (text more : List ℕ) → IsMade seed size code text → IsMade seed size other more → (code ≡ other) × (text ≡ more)
  one_summary run seed size code other text more one two =
      let scenario = made_scenario seed size in
      let trace : two.trace ≡ one.trace = run scenario.setup two.trace one.trace two.run one.run in
      let judgement = subst (λ (t : Trace). IsJudgement Counts scenario t other two.rest) trace two.judgement in
      let said = one_judgement reduced judged Counts scenario one.trace code other one.rest two.rest one.judgement judgement in
      (said.0, one.told ∙ ap₂ (λ (t : Trace) (rest : List ℕ). made_line seed size ++ (run_line t ++ rest)) (sym trace) said.1 ∙ sym two.told)
