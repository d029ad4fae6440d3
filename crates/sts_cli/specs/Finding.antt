-- What is found of a scenario, and of a made-up one.
use Rattle.std.specs.Prelude.{◌≡◌, ℕ, List, [], ◌++◌}
use Rattle.machine_setup.specs.declared.setup.Setup.{Setup}
use Rattle.event_machine.specs.Legal.{world_after}
use Rattle.event_machine.specs.Rule.{IsOneThreadRun}
use Rattle.event_machine.specs.declared.trace.Entry.{Entry}
use Rattle.event_machine.specs.declared.trace.Trace.{Trace}
use Rattle.controller_host.specs.Hosting.{Hosting, hosting, starting}
use Rattle.scenario_doc.specs.declared.scenario.Scenario.{Scenario}
use Rattle.scenario_gen.specs.Generated.{generated}
use Rattle.log_doc.specs.declared.log.Log.{Log}
use Rattle.causal_replay.specs.Replay.{IsReplay, own_steps}
use Rattle.sts_cli.specs.Lines.{made_line, run_line}
use Rattle.sts_cli.specs.Recorded.{IsLogText, IsRecorded, all_kept}
use Rattle.sts_cli.specs.Sequences.{IsJudgement}
use Rattle.sts_cli.specs.declared.sequence.Telling.TheVariants.{Whole, Counts}

module _ (tells : Setup Hosting → List Entry → Type 0) where
  -- A scenario was run, its run judged and, where an invariant is violated, reduced. The text is the line of the log, and the judgement.
  pub record IsFinding (scenario : Scenario) (code : ℕ) (text : List ℕ) : Type 0 where
    pub log : Log
    -- a complete legal run of the scenario, with each worker's steps once in its order
    pub recorded : IsRecorded tells scenario log
    -- whose whole replay is the run itself, and comes to the same world
    pub whole : IsReplay hosting starting scenario.setup log.trace.entries (all_kept log) (own_steps log.trace.entries) [] (world_after hosting starting scenario.setup log.trace)
    pub line : List ℕ
    pub written : IsLogText log line
    -- the verdicts at its end, and the sequence for the first invariant that is violated
    pub rest : List ℕ
    pub judgement : IsJudgement Whole scenario log.trace code rest
    pub told : text ≡ line ++ rest

-- a made-up scenario, as one that could be read
abbrev pub made_scenario : ℕ → ℕ → Scenario
made_scenario seed size = record { setup = (generated seed size).setup; invariants = (generated seed size).invariants }

-- A made-up scenario was run by one thread, its run judged and, where an invariant is violated, reduced. The text sums this up.
pub record IsMade (seed size : ℕ) (code : ℕ) (text : List ℕ) : Type 0 where
  pub trace : Trace
  pub run : IsOneThreadRun hosting starting (made_scenario seed size).setup trace
  pub rest : List ℕ
  pub judgement : IsJudgement Counts (made_scenario seed size) trace code rest
  pub told : text ≡ made_line seed size ++ (run_line trace ++ rest)
