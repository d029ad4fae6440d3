-- The scenario document: what a JSON value that is one stands for.
use Rattle.std.specs.Prelude.{List, map, Ok}
use Rattle.serde_json.specs.Data.{Data}
use Rattle.route_app.specs.declared.map.Map.{Map}
use Rattle.topology.specs.declared.network.Topology.{Topology}
use Rattle.doc_forms.specs.Reading.{Reading, ◌>>=◌}
use Rattle.scenario_doc.specs.Applications.{host_by}
use Rattle.scenario_doc.specs.Draft.{draft_of}
use Rattle.scenario_doc.specs.Rules.{draft_rules}
use Rattle.scenario_doc.specs.declared.draft.Draft.{Draft}
use Rattle.scenario_doc.specs.declared.scenario.Scenario.{Scenario}

-- what a routing application is told of a network
abbrev pub map_of : Topology → Map
map_of network = record { links = network.links; hosts = network.hosts }

-- a scenario whose controllers stand as they start
abbrev pub made : Draft → Scenario
made draft = record {
  setup = record {
    topology = draft.topology;
    presets = draft.presets;
    controllers = map (host_by (map_of draft.topology)) draft.plans;
    script = draft.script;
    limits = draft.limits;
  };
  invariants = draft.invariants;
}

-- a scenario: a value of the form whose parts fit one another
abbrev pub scenario_of : Data → Reading Scenario
scenario_of value = do
  draft ← draft_of value
  fit ← draft_rules draft
  Ok (made draft)
