-- Verdicts in a world, and what is told of them.
use Rattle.std.specs.Prelude.{◌≡◌, ℕ, List, position, Option, Some, None}
use Rattle.std.specs.List.{AllZip}
use Rattle.event_world.specs.Answers.{network_of}
use Rattle.event_world.specs.World.{Situation}
use Rattle.controller_host.specs.Hosting.{Hosting}
use Rattle.scenario_doc.specs.declared.scenario.Scenario.{Scenario}
use Rattle.invariant_check.specs.Verdict.{IsVerdict, is_violated}
use Rattle.invariant_check.specs.declared.walk.Verdict.{Verdict}
use Rattle.report_text.specs.Verdicts.{verdicts_text}

-- these are the verdicts on the scenario's invariants in a world, in their order
abbrev pub AreVerdicts : Scenario → Situation Hosting → List Verdict → Type 0
AreVerdicts scenario world verdicts = AllZip (λ invariant verdict. IsVerdict (network_of scenario.setup.topology world) invariant verdict) scenario.invariants verdicts

-- the place of the first invariant that is violated
abbrev pub first_violated : List Verdict → Option ℕ
first_violated verdicts = position is_violated verdicts

-- the status of a job that judges: 1 where an invariant is violated, else 0
abbrev pub judging_code : Option ℕ → ℕ
judging_code None = 0
judging_code (Some place) = 1

-- the text is that of the verdicts in a world, and the status tells whether one is violated
abbrev pub IsCheck : Scenario → Situation Hosting → ℕ → List ℕ → Type 0
IsCheck scenario world code text = (verdicts : List Verdict) × AreVerdicts scenario world verdicts
    × (code ≡ judging_code (first_violated verdicts)) × (text ≡ verdicts_text scenario.invariants verdicts)
