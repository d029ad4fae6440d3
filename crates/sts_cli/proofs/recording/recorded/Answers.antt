use Rattle.std.proofs.Common.{◌≡◌, ◌≤◌, All, length, subst, sym}
use Rattle.std.proofs.lemmas.Result.{IfOk-weaker}
use Rattle.machine_setup.specs.Setup.{IsValidSetup}
use Rattle.event_machine.specs.Legal.{IsLegalRun}
use Rattle.controller_host.specs.Hosting.{hosting, starting}
use Rattle.scenario_doc.specs.declared.scenario.Scenario.{Scenario}
use Rattle.invariant_check.specs.Network.{IsAsked}
use Rattle.sts_cli.proofs.FoundWhole.{aimed}
use Rattle.sts_cli.proofs.recording.recorded.Goals as goal

pub found-requires-clause-setup : goal.found-requires-clause-setup
found-requires-clause-setup g c = subst (λ (s : Scenario). IsValidSetup s.setup) (sym c.in_ok-recording.ensures.recorded.of) c.requires.setup

pub found-requires-clause-asked : goal.found-requires-clause-asked
found-requires-clause-asked g c = subst (λ (s : Scenario). All IsAsked s.invariants) (sym c.in_ok-recording.ensures.recorded.of) c.requires.asked

pub found-requires-clause-few : goal.found-requires-clause-few
found-requires-clause-few g c = subst (λ (s : Scenario). length s.invariants ≤ 32) (sym c.in_ok-recording.ensures.recorded.of) c.requires.few

pub found-requires-clause-legal : goal.found-requires-clause-legal
found-requires-clause-legal g c =
    subst (λ (s : Scenario). IsLegalRun hosting starting s.setup c.in_ok-recording.recording.log.trace) (sym c.in_ok-recording.ensures.recorded.of) c.in_ok-recording.ensures.recorded.legal

pub returns-in-Find : goal.returns-in-Find
returns-in-Find g c =
    let recording = c.in_ok-recording.recording in
    let run = c.in_ok-recording.ensures in
    IfOk-weaker c.found.result _ _ (λ answer judged. aimed _ c.a_legal_run_replays_whole.ensures c.args.scenario recording.log recording.line.items run.recorded run.line
    c.args.aim c.in-Find.is answer.status.code answer.text.items judged) c.found.ensures
