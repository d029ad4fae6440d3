-- A scenario that can be written reads back.
use Rattle.std.proofs.Common.{◌≡◌, ℕ, List, All, Result, Ok, Err, Vec, Global, IfOk, ap, ◌∙◌}
use Rattle.serde_json.specs.Data.{Data}
use Rattle.doc_forms.specs.Reading.{◌>>=◌}
use Rattle.doc_forms.specs.Texts.{IsJson, IsText}
use Rattle.scenario_doc.specs.Draft.{draft_of}
use Rattle.scenario_doc.specs.Rules.{draft_rules}
use Rattle.scenario_doc.specs.Scenario.{made, scenario_of}
use Rattle.scenario_doc.specs.Written.{IsNarrowPlan, draft_data}
use Rattle.scenario_doc.specs.WrittenScenario.{IsWritable, drafted}
use Rattle.scenario_doc.specs.declared.draft.Draft.{Draft}
use Rattle.scenario_doc.specs.declared.scenario.Scenario.{Scenario}
use Rattle.scenario_doc.proofs.NarrowNames.{narrow_names}
use Rattle.scenario_doc.proofs.WrittenDrafts.{reads_back}

-- what holds of itself holds where a call gives something
pub always : {A E : Type 0} (r : Result A E) (P : Type 0) → P → IfOk r (λ x. P)
always (Ok x) P h = h
always (Err e) P h = tt

pub draft_reads_back : (scenario : Scenario) → All (All IsNarrowPlan) (drafted scenario).plans → IsWritable scenario
    → draft_of (draft_data (drafted scenario)) ≡ Ok (drafted scenario)
draft_reads_back scenario plans w =
    reads_back (drafted scenario) w.wide (narrow_names (drafted scenario) w.wide w.rules plans)

scenario_reads : (value : Data) (draft : Draft) (scenario : Scenario) → draft_of value ≡ Ok draft → draft_rules draft ≡ Ok tt
    → made draft ≡ scenario → scenario_of value ≡ Ok scenario
scenario_reads value draft scenario reads kept start =
    ap (λ found. found >>= (λ d. draft_rules d >>= (λ fit. Ok (made d)))) reads ∙ ap (λ found. found >>= (λ fit. Ok (made draft))) kept ∙ ap Ok start

pub text_reads : {E : Type 0} (r : Result (Vec ℕ Global) E) (scenario : Scenario) → IfOk r (λ bytes. IsJson bytes.items (draft_data (drafted scenario)))
    → (IsWritable scenario → draft_of (draft_data (drafted scenario)) ≡ Ok (drafted scenario))
    → IfOk r (λ bytes. IsWritable scenario → IsText scenario_of bytes.items scenario)
text_reads (Ok bytes) scenario json reads =
    λ w. (draft_data (drafted scenario), json, scenario_reads (draft_data (drafted scenario)) (drafted scenario) scenario (reads w) w.rules w.start)
text_reads (Err e) scenario json reads = tt
