-- A scenario document as it is read, before it is asked whether its parts fit one another.
use Rattle.std.specs.Prelude.{ℕ, ◌==◌, List, [], ◌∷◌, map, Ok, codes, ⊤}
use Rattle.serde_json.specs.Data.{Data}
use Rattle.doc_forms.specs.Forms.{field, keyed, list, number, whole}
use Rattle.doc_forms.specs.Reading.{Reading, ◌>>=◌, require}
use Rattle.scenario_doc.specs.Plans.{plan_of}
use Rattle.scenario_doc.specs.Network.{host_of, invariant_of, link_of, switch_of}
use Rattle.scenario_doc.specs.Script.{line_of}
use Rattle.scenario_doc.specs.declared.draft.Draft.{Draft}

-- the keys of a scenario, in byte order
abbrev pub scenario_keys : List (List ℕ)
scenario_keys = codes "budget" ∷ codes "controllers" ∷ codes "hosts" ∷ codes "invariants" ∷ codes "links" ∷ codes "max_events"
    ∷ codes "patience" ∷ codes "script" ∷ codes "sts" ∷ codes "switches" ∷ codes "workers" ∷ []

-- the version of the format, which is 1
abbrev pub version : Data → Reading ⊤
version value = do
  n ← whole value
  require 8 (n == 1)

-- a scenario
abbrev pub draft_of : Data → Reading Draft
draft_of value = do
  all ← keyed scenario_keys value
  budget ← field (number 0 64) (codes "budget") value
  plans ← field (list (list plan_of 4) 8) (codes "controllers") value
  hosts ← field (list host_of 128) (codes "hosts") value
  invariants ← field (list invariant_of 32) (codes "invariants") value
  links ← field (list link_of 256) (codes "links") value
  max_events ← field (number 1 16384) (codes "max_events") value
  patience ← field (number 0 1000000) (codes "patience") value
  script ← field (list line_of 256) (codes "script") value
  one ← field version (codes "sts") value
  switches ← field (list switch_of 64) (codes "switches") value
  workers ← field (number 1 8) (codes "workers") value
  Ok (record {
    topology = record {
      ports = map (λ s. s.ports) switches;
      owner = map (λ s. s.owner) switches;
      links = links;
      hosts = hosts;
    };
    presets = map (λ s. s.presets) switches;
    plans = plans;
    script = script;
    limits = record { max_events = max_events; budget = budget; workers = workers; patience = patience };
    invariants = invariants;
  })
