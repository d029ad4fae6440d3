-- A run whose end violates an invariant, reduced to inputs that are enough.
use Rattle.std.specs.Prelude.{◌≡◌, ℕ, List, ◌++◌, length, slice_get, Option, Some, None, true}
use Rattle.std.specs.List.{remove}
use Rattle.topology.specs.declared.invariant.Invariant.{Invariant}
use Rattle.event_world.specs.World.{Situation}
use Rattle.event_machine.specs.Legal.{world_after}
use Rattle.event_machine.specs.declared.trace.Trace.{Trace}
use Rattle.controller_host.specs.Hosting.{Hosting, hosting, starting}
use Rattle.scenario_doc.specs.declared.scenario.Scenario.{Scenario}
use Rattle.causal_replay.specs.Steps.{AreLegalSteps}
use Rattle.causal_replay.specs.declared.replayed.Taken.{Taken}
use Rattle.input_atoms.specs.Cutting.{NoneFails}
use Rattle.causal_minimizer.specs.Failing.{Fails, IsFound, IsReduction}
use Rattle.invariant_check.specs.declared.walk.Verdict.{Verdict}
use Rattle.report_text.specs.Replays.{absent_line, replay_text}
use Rattle.report_text.specs.Sequences.{count_line, sequence_text}
use Rattle.report_text.specs.Verdicts.{verdicts_text}
use Rattle.sts_cli.specs.Lines.{calm_line}
use Rattle.sts_cli.specs.declared.sequence.Telling.{Telling}
use Rattle.sts_cli.specs.declared.sequence.Telling.TheVariants.{Whole, Counts}
use Rattle.sts_cli.specs.Verdicts.{AreVerdicts, first_violated}

-- What is told of a run that was reduced for the invariant at a place: the sequence of the atoms that are enough, of how many, and their
-- replay, by its run and what is absent from it; or their counts alone.
abbrev pub telling_text : Telling → Scenario → ℕ → List (List ℕ) → ℕ → List Taken → List ℕ → List ℕ
telling_text Whole scenario place atoms of run absent = sequence_text scenario.setup.script atoms of ++ replay_text run absent (Some place)
telling_text Counts scenario place atoms of run absent = count_line atoms of ++ absent_line absent

-- the invariant at a place is violated at the end of a run
pub record IsViolatedAt (scenario : Scenario) (trace : Trace) (place : ℕ) : Type 0 where
  pub invariant : Invariant
  pub named : slice_get scenario.invariants place ≡ Some invariant
  pub found : IsFound hosting starting scenario.setup invariant (world_after hosting starting scenario.setup trace) true

-- A run is reduced for the invariant at a place, part by part.
pub record IsReducedAt (scenario : Scenario) (trace : Trace) (place : ℕ) (atoms : List (List ℕ)) (of : ℕ) (run : List Taken) (absent : List ℕ) : Type 0 where
  pub invariant : Invariant
  pub named : slice_get scenario.invariants place ≡ Some invariant
  pub world : Situation Hosting
  -- these are whole atoms of the run's inputs, and their replay ends in the violation
  pub reduced : IsReduction hosting starting scenario.setup trace invariant atoms of run absent world
  -- the replay takes legal steps
  pub legal : AreLegalSteps hosting starting scenario.setup run
  -- the same rule of replay without any one of the atoms does not end in the violation
  pub needed : NoneFails (Fails hosting starting scenario.setup trace invariant) (remove reduced.numbers) (length reduced.numbers)

-- what is shown of a run that is reduced for the invariant at a place
pub record IsShown (telling : Telling) (scenario : Scenario) (trace : Trace) (place : ℕ) (text : List ℕ) : Type 0 where
  pub atoms : List (List ℕ)
  pub of : ℕ
  pub run : List Taken
  pub absent : List ℕ
  pub reduced : IsReducedAt scenario trace place atoms of run absent
  pub told : text ≡ telling_text telling scenario place atoms of run absent

-- What is concluded where this is the first invariant that is violated, if one is: a line that says that none is, with the status that
-- this has; or the run reduced, with status 1.
abbrev pub IsConclusion : Telling → ℕ → Scenario → Trace → Option ℕ → ℕ → List ℕ → Type 0
IsConclusion telling calm scenario trace None code text = (code ≡ calm) × (text ≡ calm_line)
IsConclusion telling calm scenario trace (Some place) code text = (code ≡ 1) × IsShown telling scenario trace place text

-- what is concluded from the verdicts at the end of a run
abbrev pub IsSequence : Scenario → Trace → ℕ → List ℕ → Type 0
IsSequence scenario trace code text = (verdicts : List Verdict) × AreVerdicts scenario (world_after hosting starting scenario.setup trace) verdicts
    × IsConclusion Whole 9 scenario trace (first_violated verdicts) code text

-- The verdicts at the end of a run, each over all headers, and what is concluded from them.
pub record IsJudgement (telling : Telling) (scenario : Scenario) (trace : Trace) (code : ℕ) (text : List ℕ) : Type 0 where
  pub verdicts : List Verdict
  pub judged : AreVerdicts scenario (world_after hosting starting scenario.setup trace) verdicts
  pub rest : List ℕ
  pub concluded : IsConclusion telling 0 scenario trace (first_violated verdicts) code rest
  pub told : text ≡ verdicts_text scenario.invariants verdicts ++ rest
