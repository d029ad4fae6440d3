-- Logs of runs: one that workers recorded, its line, and its whole replay.
use Rattle.std.specs.Prelude.{◌≡◌, ℕ, List, ◌++◌, length, replicate, Bool, true}
use Rattle.machine_setup.specs.declared.setup.Setup.{Setup}
use Rattle.event_world.specs.World.{Situation}
use Rattle.event_machine.specs.declared.trace.Entry.{Entry}
use Rattle.event_machine.specs.Legal.{IsLegalRun}
use Rattle.event_machine.specs.Rule.{IsOneThreadRun}
use Rattle.controller_host.specs.Hosting.{Hosting, hosting, starting}
use Rattle.doc_forms.specs.Texts.{IsText}
use Rattle.scenario_doc.specs.declared.scenario.Scenario.{Scenario}
use Rattle.log_doc.specs.declared.log.Log.{Log}
use Rattle.log_doc.specs.Log.{log_of}
use Rattle.log_doc.specs.Written.{log_text}
use Rattle.causal_replay.specs.Replay.{IsReplay}
use Rattle.causal_replay.specs.declared.replayed.Taken.{Taken}
use Rattle.invariant_check.specs.declared.walk.Verdict.{Verdict}
use Rattle.report_text.specs.Events.{line_feed}
use Rattle.report_text.specs.Replays.{replay_text}
use Rattle.run_recorder.specs.Answers.{AreDealt, RestComesLast}
use Rattle.run_recorder.specs.Rest.{RestIsRuled}
use Rattle.sts_cli.specs.Verdicts.{AreVerdicts, first_violated}

-- every line of the log's script is kept
abbrev pub all_kept : Log → List Bool
all_kept log = replicate (length log.scenario.setup.script) true

-- the text is that of the log's replay with all lines of its script, and of the first invariant that is violated at its end
abbrev pub IsWholeReplay : Log → List ℕ → Type 0
IsWholeReplay log text = (run : List Taken) × (absent : List ℕ) × (world : Situation Hosting) × (verdicts : List Verdict)
    × IsReplay hosting starting log.scenario.setup log.trace.entries (all_kept log) run absent world
    × AreVerdicts log.scenario world verdicts × (text ≡ replay_text run absent (first_violated verdicts))

-- the text is the line of a log: it ends with a line feed, and what stands before is read as that log
abbrev pub IsLogText : Log → List ℕ → Type 0
IsLogText log text = (text ≡ log_text log ++ line_feed) × IsText log_of (log_text log) log

module _ (tells : Setup Hosting → List Entry → Type 0) where
  -- The log is that of a run of the scenario which its workers recorded: a complete legal run in worker order; each entry is of the
  -- worker that has its actor, or of worker 0, whose entries come last and are what one thread does next. The gates tell of it. Where
  -- there is no patience it is the run of one thread.
  pub record IsRecorded (scenario : Scenario) (log : Log) : Type 0 where
    pub of : log.scenario ≡ scenario
    pub legal : IsLegalRun hosting starting scenario.setup log.trace
    pub dealt : AreDealt scenario.setup scenario.setup.limits.workers log.trace.entries
    pub last : RestComesLast log.trace.entries
    pub ruled : RestIsRuled hosting starting scenario.setup log.trace.entries
    pub passes : tells scenario.setup log.trace.entries
    pub alone : scenario.setup.limits.patience ≡ 0 → IsOneThreadRun hosting starting scenario.setup log.trace
