-- The verdicts in a world.
use Rattle.std.proofs.Common.{◌≡◌, List, length, sym, subst}
use Rattle.std.specs.Prelude.{Result, Ok, Err, IfOk}
use Rattle.std.specs.List.{AllZip}
use Rattle.std.proofs.lemmas.Slice.Zip.{AllZip-long}
use Rattle.topology.specs.declared.invariant.Invariant.{Invariant}
use Rattle.event_world.specs.Answers.{network_of}
use Rattle.event_world.specs.World.{Situation}
use Rattle.event_world.specs.declared.net_state.NetState.{NetState}
use Rattle.controller_host.specs.Hosting.{Hosting}
use Rattle.scenario_doc.specs.declared.scenario.Scenario.{Scenario}
use Rattle.invariant_check.specs.Verdict.{IsVerdict}
use Rattle.invariant_check.specs.declared.walk.Verdict.{Verdict}
use Rattle.sts_cli.specs.Verdicts.{AreVerdicts}

-- what a call judges
abbrev Judges : NetState → List Invariant → List Verdict → Type 0
Judges net list verdicts = AllZip (λ invariant verdict. IsVerdict net invariant verdict) list verdicts

-- verdicts in a world's network are those in the world
pub judged : {E : Type 0} (scenario : Scenario) (world : Situation Hosting) (net : NetState) (list : List Invariant) (result : Result (List Verdict) E)
    → net ≡ network_of scenario.setup.topology world → list ≡ scenario.invariants
    → IfOk result (Judges net list) → IfOk result (AreVerdicts scenario world)
judged scenario world net list (Ok verdicts) same all are =
    let there = subst (λ (n : NetState). Judges n list verdicts) same are in
    subst (λ (l : List Invariant). Judges (network_of scenario.setup.topology world) l verdicts) all there
judged scenario world net list (Err why) same all are = tt

-- there are as many as invariants
pub counted : {E : Type 0} (net : NetState) (list wanted : List Invariant) (result : Result (List Verdict) E) → list ≡ wanted
    → IfOk result (Judges net list) → IfOk result (λ verdicts. length wanted ≡ length verdicts)
counted net list wanted (Ok verdicts) same are =
    let as_many = AllZip-long (λ invariant verdict. IsVerdict net invariant verdict) list verdicts are in
    subst (λ (l : List Invariant). length l ≡ length verdicts) same (sym as_many)
counted net list wanted (Err why) same are = tt
