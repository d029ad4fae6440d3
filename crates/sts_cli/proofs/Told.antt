-- Every answer has a status whose text is written.
use Rattle.std.proofs.Common.{◌≡◌, ℕ, List, inl, inr, subst, sym, refl}
use Rattle.std.specs.Prelude.{Option, Some, None}
use Rattle.machine_setup.specs.declared.setup.Setup.{Setup}
use Rattle.event_machine.specs.declared.trace.Entry.{Entry}
use Rattle.event_machine.specs.declared.trace.Trace.{Trace}
use Rattle.controller_host.specs.Hosting.{Hosting}
use Rattle.scenario_doc.specs.declared.scenario.Scenario.{Scenario}
use Rattle.log_doc.specs.declared.log.Log.{Log}
use Rattle.sts_cli.specs.Answer.{IsAim, IsAnswer, IsJob, IsJudged, IsOfLog, IsOfScenario}
use Rattle.sts_cli.specs.Ends.{IsTold}
use Rattle.sts_cli.specs.Sequences.{IsConclusion}
use Rattle.sts_cli.specs.Verdicts.{first_violated, judging_code}
use Rattle.sts_cli.specs.declared.sequence.Telling.{Telling}
use Rattle.sts_cli.specs.declared.sequence.Telling.TheVariants.{Whole, Counts}
use Rattle.sts_cli.specs.declared.words.Aim.{Aim}
use Rattle.sts_cli.specs.declared.words.Aim.TheVariants.{Find, Record}
use Rattle.sts_cli.specs.declared.words.Form.{Form}
use Rattle.sts_cli.specs.declared.words.Form.TheVariants.{OfScenario, OfLog, Gen}
use Rattle.sts_cli.specs.declared.words.Job.{Job}
use Rattle.sts_cli.specs.declared.words.Job.TheVariants.{Check, Replay, Reduce}

-- the status of a job that judges
judging_told : (found : Option ℕ) (code : ℕ) → code ≡ judging_code found → IsTold code
judging_told None code is = inl is
judging_told (Some place) code is = inr (inl is)

-- that of what is concluded
concluded_told : (telling : Telling) (calm : ℕ) (scenario : Scenario) (trace : Trace) (found : Option ℕ) (code : ℕ) (text : List ℕ)
    → IsTold calm → IsConclusion telling calm scenario trace found code text → IsTold code
concluded_told telling calm scenario trace None code text told is = subst IsTold (sym is.0) told
concluded_told telling calm scenario trace (Some place) code text told is = inr (inl is.0)

-- that of any job
job_told : (job : Job) (log : Log) (code : ℕ) (text : List ℕ) → IsJob job log code text → IsTold code
job_told Check log code text (verdicts, are, status, is) = judging_told (first_violated verdicts) code status
job_told Replay log code text is = inl is.0
job_told Reduce log code text (verdicts, are, is) =
    concluded_told Whole 9 log.scenario log.trace (first_violated verdicts) code text (inr (inr (inr (inr refl)))) is

-- and that of a log that is no legal run
judged_told : (job : Job) (log : Log) (code : ℕ) (text : List ℕ) → IsJudged job log code text → IsTold code
judged_told job log code text judged = elim judged [
  | inl legal ↦ job_told job log code text legal.1
  | inr wrong ↦ inr (inr (inr (inl wrong.0)))
]

log_told : (job : Job) (bytes : List ℕ) (code : ℕ) (text : List ℕ) → IsOfLog job bytes code text → IsTold code
log_told job bytes code text answer = elim answer [
  | inl read ↦ judged_told job read.0 code text read.2
  | inr refused ↦ inr (inr (inl refused.0))
]

module _ (tells : Setup Hosting → List Entry → Type 0) where
  aim_told : (aim : Aim) (scenario : Scenario) (code : ℕ) (text : List ℕ) → IsAim tells aim scenario code text → IsTold code
  aim_told Find scenario code text found =
      concluded_told Whole 0 scenario found.log.trace (first_violated found.judgement.verdicts) code found.judgement.rest (inl refl) found.judgement.concluded
  aim_told Record scenario code text run = inl run.0

  scenario_told : (aim : Aim) (bytes : List ℕ) (code : ℕ) (text : List ℕ) → IsOfScenario tells aim bytes code text → IsTold code
  scenario_told aim bytes code text answer = elim answer [
    | inl read ↦ aim_told aim read.0 code text read.2
    | inr refused ↦ inr (inr (inl refused.0))
  ]

  pub answer_told : (form : Form) (bytes : List ℕ) (code : ℕ) (text : List ℕ) → IsAnswer tells form bytes code text → IsTold code
  answer_told (OfScenario aim) bytes code text answer = scenario_told aim bytes code text answer
  answer_told (OfLog job) bytes code text answer = log_told job bytes code text answer
  answer_told (Gen seed size) bytes code text made =
      concluded_told Counts 0 _ made.trace (first_violated made.judgement.verdicts) code made.judgement.rest (inl refl) made.judgement.concluded
