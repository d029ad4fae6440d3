-- What is found of a scenario, from the run that was recorded and what was judged of it.
use Rattle.std.proofs.Common.{◌≡◌, ◌∙◌, ℕ, List, [], ◌++◌, length, Bool, true, refl, sym, ap, subst, All}
use Rattle.std.proofs.lemmas.List.{length-replicate}
use Rattle.std.proofs.lemmas.List.Elements.{All-replicate}
use Rattle.machine_setup.specs.declared.setup.Setup.{Setup}
use Rattle.event_machine.specs.Legal.{IsLegalRun, world_after}
use Rattle.event_machine.specs.declared.trace.Entry.{Entry}
use Rattle.event_machine.specs.declared.trace.Trace.{Trace}
use Rattle.controller_host.specs.Hosting.{Hosting, hosting, starting}
use Rattle.scenario_doc.specs.declared.scenario.Scenario.{Scenario}
use Rattle.log_doc.specs.declared.log.Log.{Log}
use Rattle.causal_replay.specs.Replay.{IsReplay, own_steps}
use Rattle.sts_cli.specs.Answer.{IsAim}
use Rattle.sts_cli.specs.Finding.{IsFinding}
use Rattle.sts_cli.specs.Recorded.{IsLogText, IsRecorded, all_kept}
use Rattle.sts_cli.specs.Sequences.{IsJudgement}
use Rattle.sts_cli.specs.declared.sequence.Telling.TheVariants.{Whole}
use Rattle.sts_cli.specs.declared.words.Aim.{Aim}
use Rattle.sts_cli.specs.declared.words.Aim.TheVariants.{Find}

-- a legal run has a whole replay
abbrev HasWholeReplay : Type 0
HasWholeReplay = (setup : Setup Hosting) (trace : Trace) (keep : List Bool) → IsLegalRun hosting starting setup trace → length keep ≡ length setup.script
    → All (λ kept. kept ≡ true) keep → IsReplay hosting starting setup trace.entries keep (own_steps trace.entries) [] (world_after hosting starting setup trace)

-- what is judged of a log's run, after its line
abbrev IsJudged : Log → List ℕ → ℕ → List ℕ → Type 0
IsJudged log line code text = (rest : List ℕ) × IsJudgement Whole log.scenario log.trace code rest × (text ≡ line ++ rest)

module _ (tells : Setup Hosting → List Entry → Type 0) (law : HasWholeReplay) (scenario : Scenario) (log : Log) (line : List ℕ)
    (recorded : IsRecorded tells scenario log) (written : IsLogText log line) where
  finding : (code : ℕ) (text : List ℕ) → IsJudged log line code text → IsFinding tells scenario code text
  finding code text (rest, judgement, told) =
      let lines = length log.scenario.setup.script in
      record {
        log = log;
        recorded = recorded;
        whole = law scenario.setup log.trace (all_kept log) recorded.legal
            (length-replicate lines true ∙ ap (λ (s : Scenario). length s.setup.script) recorded.of)
            (All-replicate (λ (kept : Bool). kept ≡ true) lines true refl);
        line = line;
        written = written;
        rest = rest;
        judgement = subst (λ (s : Scenario). IsJudgement Whole s log.trace code rest) recorded.of judgement;
        told = told;
      }

  -- which is what the word asks for
  pub aimed : (aim : Aim) → aim ≡ Find → (code : ℕ) (text : List ℕ) → IsJudged log line code text → IsAim tells aim scenario code text
  aimed aim is code text judged = subst (λ (a : Aim). IsAim tells a scenario code text) (sym is) (finding code text judged)
