-- A scenario that a draft made tells that draft, and can be written.
use Rattle.std.proofs.Common.{◌≡◌, ◌∙◌, List, [], ◌∷◌, map, Ok, ap, ap₂, refl, subst, sym}
use Rattle.route_app.specs.declared.map.Map.{Map}
use Rattle.scenario_doc.specs.Applications.{app_of, host_by}
use Rattle.scenario_doc.specs.Ranges.{IsWideDraft}
use Rattle.scenario_doc.specs.Rules.{draft_rules}
use Rattle.scenario_doc.specs.Scenario.{made, map_of}
use Rattle.scenario_doc.specs.WrittenScenario.{IsWritable, drafted, plan_of_app, plans_of_host}
use Rattle.scenario_doc.specs.declared.draft.Draft.{Draft}
use Rattle.scenario_doc.specs.declared.plans.Plan.{Plan}
use Rattle.scenario_doc.specs.declared.plans.Plan.TheVariants as plan

plan_back : (network : Map) (one : Plan) → plan_of_app (app_of network one) ≡ one
plan_back network (plan.Learning idle) = refl
plan_back network (plan.Firewall reinstall rules) = refl
plan_back network (plan.Routing clear_on_down) = refl

plans_back : (network : Map) (plans : List Plan) → map plan_of_app (map (app_of network) plans) ≡ plans
plans_back network [] = refl
plans_back network (one ∷ plans) = ap₂ (λ (x : Plan) (xs : List Plan). x ∷ xs) (plan_back network one) (plans_back network plans)

hosts_back : (network : Map) (hosts : List (List Plan)) → map plans_of_host (map (host_by network) hosts) ≡ hosts
hosts_back network [] = refl
hosts_back network (plans ∷ hosts) = ap₂ (λ (x : List Plan) (xs : List (List Plan)). x ∷ xs) (plans_back network plans) (hosts_back network hosts)

-- what a draft made tells the draft
pub made_back : (draft : Draft) → drafted (made draft) ≡ draft
made_back draft = ap (λ (plans : List (List Plan)). record draft { plans = plans }) (hosts_back (map_of draft.topology) draft.plans)

-- a scenario of a draft that keeps its rules can be written
pub made_writable : (draft : Draft) → IsWideDraft draft → draft_rules draft ≡ Ok tt → IsWritable (made draft)
made_writable draft wide kept = record {
  wide = subst IsWideDraft (sym (made_back draft)) wide;
  rules = ap draft_rules (made_back draft) ∙ kept;
  start = ap made (made_back draft);
}
