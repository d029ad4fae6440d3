-- The log document: what a JSON value that is one stands for.
use Rattle.std.specs.Prelude.{ℕ, List, [], ◌∷◌, Ok, codes}
use Rattle.serde_json.specs.Data.{Data}
use Rattle.doc_forms.specs.Forms.{field, keyed, list}
use Rattle.doc_forms.specs.Reading.{Reading, ◌>>=◌, under}
use Rattle.scenario_doc.specs.Draft.{draft_of, version}
use Rattle.scenario_doc.specs.Rules.{draft_rules, each}
use Rattle.scenario_doc.specs.Scenario.{made}
use Rattle.log_doc.specs.Entries.{end_of, entry_of, entry_rules}
use Rattle.log_doc.specs.declared.log.Log.{Log}

-- the keys of a log, in byte order
abbrev pub log_keys : List (List ℕ)
log_keys = codes "end" ∷ codes "entries" ∷ codes "scenario" ∷ codes "sts" ∷ []

-- A log: a scenario and the history of a run of it. First everything is to have its form; then each entry is asked for its worker and its
-- item, and only then the scenario whether its parts fit one another.
abbrev pub log_of : Data → Reading Log
log_of value = do
  all ← keyed log_keys value
  end ← field end_of (codes "end") value
  entries ← field (list entry_of 16384) (codes "entries") value
  draft ← field draft_of (codes "scenario") value
  one ← field version (codes "sts") value
  kept ← under (codes "entries") (each (entry_rules draft.limits.workers) entries)
  fit ← under (codes "scenario") (draft_rules draft)
  Ok (record { scenario = made draft; trace = record { entries = entries; end = end } })
