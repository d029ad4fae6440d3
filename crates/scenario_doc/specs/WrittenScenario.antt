-- A scenario as a document tells it.
use Rattle.std.specs.Prelude.{◌≡◌, ℕ, List, map, Ok}
use Rattle.serde_json.specs.Written.{compact_text}
use Rattle.controller_host.specs.Hosting.{Hosting}
use Rattle.controller_host.specs.declared.app.App.{App}
use Rattle.controller_host.specs.declared.app.App.TheVariants as app
use Rattle.scenario_doc.specs.Draft.{draft_of}
use Rattle.scenario_doc.specs.Ranges.{IsWideDraft}
use Rattle.scenario_doc.specs.Rules.{draft_rules}
use Rattle.scenario_doc.specs.Scenario.{made}
use Rattle.scenario_doc.specs.Written.{draft_data}
use Rattle.scenario_doc.specs.declared.draft.Draft.{Draft}
use Rattle.scenario_doc.specs.declared.plans.Plan.{Plan}
use Rattle.scenario_doc.specs.declared.plans.Plan.TheVariants as plan
use Rattle.scenario_doc.specs.declared.scenario.Scenario.{Scenario}

-- what a document says of an application that stands as it starts
abbrev pub plan_of_app : App → Plan
plan_of_app (app.Learning learner) = plan.Learning learner.idle
plan_of_app (app.Firewall wall) = plan.Firewall wall.reinstall wall.made
plan_of_app (app.Routing router) = plan.Routing router.clear_on_down

-- what a document says of a controller: its applications in order
abbrev pub plans_of_host : Hosting → List Plan
plans_of_host host = map plan_of_app host.apps

-- what a document says of a scenario
abbrev pub drafted : Scenario → Draft
drafted scenario = record {
  topology = scenario.setup.topology;
  presets = scenario.setup.presets;
  plans = map plans_of_host scenario.setup.controllers;
  script = scenario.setup.script;
  limits = scenario.setup.limits;
  invariants = scenario.invariants;
}

-- the text of a scenario
abbrev pub scenario_text : Scenario → List ℕ
scenario_text scenario = compact_text (draft_data (drafted scenario))

-- A scenario that can be written: it breaks no rule, its numbers are in their ranges, and its controllers stand as they start in its
-- network.
pub record IsWritable (scenario : Scenario) : Type 0 where
  pub wide : IsWideDraft (drafted scenario)
  pub rules : draft_rules (drafted scenario) ≡ Ok tt
  pub start : made (drafted scenario) ≡ scenario
