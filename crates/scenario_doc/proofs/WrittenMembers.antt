-- The members of a written scenario, put one after another.
use Rattle.std.proofs.Common.{◌≡◌, List, codes, refl, ap, ◌∙◌}
use Rattle.serde_json.specs.Data.{Data, Members, no_members, object, put}
use Rattle.doc_forms.specs.Written.{list_data, number_data}
use Rattle.scenario_doc.specs.Written.{draft_data, host_data, invariant_data, line_data, link_data, plan_data, switch_data, switches_of}
use Rattle.scenario_doc.specs.declared.draft.Draft.{Draft}

pub draft_written : (draft : Draft) (d1 d2 d3 d4 d5 d6 d7 d8 d9 d10 d11 : Data) (m0 m1 m2 m3 m4 m5 m6 m7 m8 m9 m10 m11 : Members)
    → d1 ≡ number_data draft.limits.budget
    → d2 ≡ list_data (list_data plan_data) draft.plans
    → d3 ≡ list_data host_data draft.topology.hosts
    → d4 ≡ list_data invariant_data draft.invariants
    → d5 ≡ list_data link_data draft.topology.links
    → d6 ≡ number_data draft.limits.max_events
    → d7 ≡ number_data draft.limits.patience
    → d8 ≡ list_data line_data draft.script
    → d9 ≡ number_data 1
    → d10 ≡ list_data switch_data (switches_of draft)
    → d11 ≡ number_data draft.limits.workers
    → m0 ≡ no_members
    → m1 ≡ put (codes "budget") d1 m0
    → m2 ≡ put (codes "controllers") d2 m1
    → m3 ≡ put (codes "hosts") d3 m2
    → m4 ≡ put (codes "invariants") d4 m3
    → m5 ≡ put (codes "links") d5 m4
    → m6 ≡ put (codes "max_events") d6 m5
    → m7 ≡ put (codes "patience") d7 m6
    → m8 ≡ put (codes "script") d8 m7
    → m9 ≡ put (codes "sts") d9 m8
    → m10 ≡ put (codes "switches") d10 m9
    → m11 ≡ put (codes "workers") d11 m10
    → object m11 ≡ draft_data draft
draft_written draft d1 d2 d3 d4 d5 d6 d7 d8 d9 d10 d11 m0 m1 m2 m3 m4 m5 m6 m7 m8 m9 m10 m11 v1 v2 v3 v4 v5 v6 v7 v8 v9 v10 v11 e0 e1 e2 e3 e4 e5 e6 e7 e8 e9 e10 e11 = rw (e11, e10, e9, e8, e7, e6, e5, e4, e3, e2, e1, e0, v1, v2, v3, v4, v5, v6, v7, v8, v9, v10, v11)
