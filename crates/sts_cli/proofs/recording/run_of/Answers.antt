use Rattle.std.proofs.Common.{◌∙◌, ◌++◌, ◌<◌, ◌^◌, List, ℕ, ap, arith, refl, subst}
use Rattle.doc_forms.specs.Texts.{IsText}
use Rattle.log_doc.specs.Log.{log_of}
use Rattle.log_doc.specs.Written.{IsWritableLog}
use Rattle.log_doc.specs.declared.log.Log.{Log}
use Rattle.report_text.specs.Events.{line_feed}
use Rattle.sts_cli.proofs.Recorded.{all_named}
use Rattle.sts_cli.proofs.recording.run_of.Goals as goal

pub write_log-requires : goal.write_log-requires
write_log-requires g c = c.a_legal_run_can_be_written.ensures.items c.args.scenario.setup c.in_ok-trace.field-0.trace c.in_ok-trace.ensures.holding

pub returns-clause-recorded : goal.returns-clause-recorded
returns-clause-recorded g c =
    let run = c.in_ok-trace.ensures in
    record {
      of = refl;
      legal = run.legal;
      dealt = run.dealt;
      last = run.last;
      ruled = run.ruled;
      passes = run.passes;
      alone = run.alone;
    }

pub returns-clause-line : goal.returns-clause-line
returns-clause-line g c =
    let setup = c.args.scenario.setup in
    let trace = c.in_ok-trace.field-0.trace in
    let log : Log = record { scenario = c.args.scenario; trace = trace } in
    let run = c.in_ok-trace.ensures in
    let law = c.a_legal_run_can_be_written.ensures in
    let bounds = c.requires.setup.bounds.workers in
    let few : setup.limits.workers < 2 ^ 32 = let most = bounds.1 in omega arith in
    let writable : IsWritableLog log = record {
      scenario = c.requires.writable;
      few = law.few setup trace c.requires.setup run.legal;
      entries = law.entries setup setup.limits.workers trace c.requires.setup run.legal run.holding
          (all_named setup setup.limits.workers bounds.0 trace.entries run.dealt) few;
    } in
    let text = c.in_ok-line.ensures.text in (
      c.in_ok-push.ensures.items ∙ ap (λ (t : List ℕ). t ++ line_feed) text,
      subst (λ (t : List ℕ). IsText log_of t log) text (c.in_ok-line.ensures.reads_back writable),
    )
