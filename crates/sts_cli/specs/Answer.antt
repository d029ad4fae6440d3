-- What the program answers to the bytes that it reads.
use Rattle.std.specs.Prelude.{◌≡◌, ◌≢◌, ℕ, ◌⊎◌, List}
use Rattle.serde_json.specs.Data.{Data}
use Rattle.machine_setup.specs.declared.setup.Setup.{Setup}
use Rattle.event_machine.specs.declared.legal.LogNo.{LogNo}
use Rattle.event_machine.specs.declared.legal.LogNo.TheVariants.{OutOfMemory}
use Rattle.event_machine.specs.declared.trace.Entry.{Entry}
use Rattle.event_machine.specs.Legal.{IsLegalRun, IsWrong, world_after}
use Rattle.controller_host.specs.Hosting.{Hosting, hosting, starting}
use Rattle.doc_forms.specs.Reading.{Reading}
use Rattle.doc_forms.specs.Texts.{IsRefused, IsText}
use Rattle.doc_forms.specs.declared.fail.DocFail.TheVariants.{Refused}
use Rattle.scenario_doc.specs.Scenario.{scenario_of}
use Rattle.scenario_doc.specs.declared.scenario.Scenario.{Scenario}
use Rattle.log_doc.specs.declared.log.Log.{Log}
use Rattle.log_doc.specs.Log.{log_of}
use Rattle.sts_cli.specs.Finding.{IsFinding, IsMade}
use Rattle.sts_cli.specs.Lines.{refused_line, wrong_line}
use Rattle.sts_cli.specs.Recorded.{IsLogText, IsRecorded, IsWholeReplay}
use Rattle.sts_cli.specs.Sequences.{IsSequence}
use Rattle.sts_cli.specs.Verdicts.{IsCheck}
use Rattle.sts_cli.specs.declared.words.Form.{Form}
use Rattle.sts_cli.specs.declared.words.Form.TheVariants.{OfScenario, OfLog, Gen}
use Rattle.sts_cli.specs.declared.words.Aim.{Aim}
use Rattle.sts_cli.specs.declared.words.Aim.TheVariants.{Find, Record}
use Rattle.sts_cli.specs.declared.words.Job.{Job}
use Rattle.sts_cli.specs.declared.words.Job.TheVariants.{Check, Replay, Reduce}

-- the bytes are no document of the form, and the text says which rule is broken, and where
abbrev pub IsRefusal : {A : Type 0} → (Data → Reading A) → List ℕ → ℕ → List ℕ → Type 0
IsRefusal form bytes code text = (code ≡ 3) × ((number : ℕ) × (path : List ℕ) × IsRefused form bytes (Refused number path) × (text ≡ refused_line number path))

-- ---- logs

-- what is said of a log that is a legal run
abbrev pub IsJob : Job → Log → ℕ → List ℕ → Type 0
IsJob Check log code text = IsCheck log.scenario (world_after hosting starting log.scenario.setup log.trace) code text
IsJob Replay log code text = (code ≡ 0) × IsWholeReplay log text
IsJob Reduce log code text = IsSequence log.scenario log.trace code text

-- the log is no legal run of its scenario, and the text says what is wrong
abbrev pub IsIllegal : Log → List ℕ → Type 0
IsIllegal log text = (why : LogNo) × IsWrong hosting starting log.scenario.setup log.trace why × (why ≢ OutOfMemory) × (text ≡ wrong_line why)

-- what is said of a log: what is asked for where it is a legal run, else what is wrong
abbrev pub IsJudged : Job → Log → ℕ → List ℕ → Type 0
IsJudged job log code text = (IsLegalRun hosting starting log.scenario.setup log.trace × IsJob job log code text)
    ⊎ ((code ≡ 4) × IsIllegal log text)

-- what is answered to bytes where a log is asked for
abbrev pub IsOfLog : Job → List ℕ → ℕ → List ℕ → Type 0
IsOfLog job bytes code text = ((log : Log) × IsText log_of bytes log × IsJudged job log code text) ⊎ IsRefusal log_of bytes code text

-- ---- scenarios

module _ (tells : Setup Hosting → List Entry → Type 0) where
  -- the line of the log of a run
  abbrev pub IsRun : Scenario → ℕ → List ℕ → Type 0
  IsRun scenario code text = (code ≡ 0) × ((log : Log) × IsRecorded tells scenario log × IsLogText log text)

  -- what is made of a scenario
  abbrev pub IsAim : Aim → Scenario → ℕ → List ℕ → Type 0
  IsAim Find scenario code text = IsFinding tells scenario code text
  IsAim Record scenario code text = IsRun scenario code text

  -- what is answered to bytes where a scenario is asked for
  abbrev pub IsOfScenario : Aim → List ℕ → ℕ → List ℕ → Type 0
  IsOfScenario aim bytes code text = ((scenario : Scenario) × IsText scenario_of bytes scenario × IsAim aim scenario code text)
      ⊎ IsRefusal scenario_of bytes code text

  -- what is answered to bytes; a made-up scenario needs none
  abbrev pub IsAnswer : Form → List ℕ → ℕ → List ℕ → Type 0
  IsAnswer (OfScenario aim) bytes code text = IsOfScenario aim bytes code text
  IsAnswer (OfLog job) bytes code text = IsOfLog job bytes code text
  IsAnswer (Gen seed size) bytes code text = IsMade seed size code text
