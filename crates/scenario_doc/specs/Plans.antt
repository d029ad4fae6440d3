-- The applications of controllers as documents write them.
use Rattle.std.specs.Prelude.{ℕ, List, Option, Some, None, Ok, codes, if◌then◌else◌}
use Rattle.std.specs.Str.{bytes_eq}
use Rattle.serde_json.specs.Data.{Data}
use Rattle.doc_forms.specs.Forms.{counted, element, flag, kind, list}
use Rattle.doc_forms.specs.Reading.{Reading, ◌>>=◌}
use Rattle.scenario_doc.specs.Packets.{bits, match_of}
use Rattle.scenario_doc.specs.declared.plans.Plan.{Plan}
use Rattle.scenario_doc.specs.declared.plans.Plan.TheVariants as plan
use Rattle.scenario_doc.specs.declared.plans.PlanKind.{PlanKind}
use Rattle.scenario_doc.specs.declared.plans.PlanKind.TheVariants as word

-- the words of applications
abbrev pub plan_kind : List ℕ → Option PlanKind
plan_kind text =
    if bytes_eq text (codes "learning") then Some word.Learning
    else if bytes_eq text (codes "firewall") then Some word.Firewall
    else if bytes_eq text (codes "routing") then Some word.Routing
    else None

-- an application by its word: `learning` and its idle seconds; `firewall`, whether it puts its rules again, and its rules; `routing`
-- and whether it clears entries to ports that are down
abbrev pub plan_by : PlanKind → Data → Reading Plan
plan_by word.Learning value = do
  two ← counted 2 value
  idle ← element (bits 16) 1 value
  Ok (plan.Learning idle)
plan_by word.Firewall value = do
  three ← counted 3 value
  reinstall ← element flag 1 value
  rules ← element (list match_of 64) 2 value
  Ok (plan.Firewall reinstall rules)
plan_by word.Routing value = do
  two ← counted 2 value
  clear_on_down ← element flag 1 value
  Ok (plan.Routing clear_on_down)

abbrev pub plan_of : Data → Reading Plan
plan_of value = do
  word ← kind plan_kind 0 value
  plan_by word value
