-- What is written has no float, and nests no deeper than a text may.
use Rattle.std.proofs.Common.{◌≡◌, ℕ, ◌≤◌, ◌+◌, suc, List, [], ◌∷◌, map, Option, Some, None, Result, Ok, Err, IfOk, String, Vec, Global, string_bytes, Bool, true, false, refl, sym, ap, ◌∙◌, subst, arith, rules}
use Rattle.of10_match.specs.declared.header.Header.{Header}
use Rattle.of10_match.specs.declared.matches.Match.{Match}
use Rattle.of10_messages.specs.declared.action.Action.{Action}
use Rattle.of10_messages.specs.declared.action.Action.TheVariants as action
use Rattle.topology.specs.declared.invariant.Invariant.{Invariant}
use Rattle.topology.specs.declared.invariant.Invariant.TheVariants as invariant
use Rattle.machine_setup.specs.declared.preset.Preset.{Preset}
use Rattle.machine_setup.specs.declared.script.Input.{Input}
use Rattle.machine_setup.specs.declared.script.Input.TheVariants as input
use Rattle.machine_setup.specs.declared.script.Line.{Line}
use Rattle.serde_json.specs.Data.{Data, array, depth, items_depth}
use Rattle.serde_json.specs.Read.{max_depth}
use Rattle.serde_json.specs.declared.value.Value.{Value}
use Rattle.serde_json.specs.View.{items_of, view}
use Rattle.serde_json.specs.Written.{compact_text, has_float, items_have_float}
use Rattle.doc_forms.specs.Texts.{IsJson, IsText}
use Rattle.doc_forms.specs.Written.{list_data, nullable_data, number_data}
use Rattle.scenario_doc.specs.Draft.{draft_of}
use Rattle.scenario_doc.specs.Ranges.{IsWideDraft}
use Rattle.scenario_doc.proofs.WrittenDrafts.{reads_back}
use Rattle.scenario_doc.specs.Written.{HasNarrowNames, action_data, draft_data, header_data, host_data, input_data, invariant_data, line_data, link_data, match_data, plan_data, prefix_data, preset_data, switch_data, switches_of}
use Rattle.scenario_doc.specs.declared.draft.Draft.{Draft}
use Rattle.scenario_doc.specs.declared.network.SwitchDraft.{SwitchDraft}
use Rattle.scenario_doc.specs.declared.plans.Plan.{Plan}
use Rattle.scenario_doc.specs.declared.plans.Plan.TheVariants as plan

-- no float, and nested at most so deep
pub record IsPlain (most : ℕ) (value : Data) : Type 0 where
  pub whole : has_float value ≡ false
  pub flat : depth value ≤ most

pub record ArePlain (most : ℕ) (values : List Data) : Type 0 where
  pub whole : items_have_float (items_of values) ≡ false
  pub flat : items_depth (items_of values) ≤ most

pub none_plain : (most : ℕ) → ArePlain most []
none_plain most = record { whole = refl; flat = omega arith }

pub more_plain : (most : ℕ) (value : Data) (values : List Data) → IsPlain most value → ArePlain most values → ArePlain most (value ∷ values)
more_plain most value values one rest = record { whole = rw (one.whole, rest.whole); flat = omega (arith, one.flat, rest.flat) }

pub array_plain : (most : ℕ) (values : List Data) → ArePlain most values → IsPlain (suc most) (array (items_of values))
array_plain most values h = record { whole = h.whole; flat = omega (arith, h.flat) }

pub map_plain : {A : Type 0} (data_of : A → Data) (most : ℕ) → ((x : A) → IsPlain most (data_of x)) → (xs : List A) → ArePlain most (map data_of xs)
map_plain data_of most each [] = none_plain most
map_plain data_of most each (x ∷ xs) = more_plain most (data_of x) (map data_of xs) (each x) (map_plain data_of most each xs)

pub list_plain : {A : Type 0} (data_of : A → Data) (most : ℕ) → ((x : A) → IsPlain most (data_of x)) → (xs : List A) → IsPlain (suc most) (list_data data_of xs)
list_plain data_of most each xs = array_plain most (map data_of xs) (map_plain data_of most each xs)

pub number_plain : (n : ℕ) → IsPlain 0 (number_data n)
number_plain n = record { whole = refl; flat = omega arith }

pub number_or_none_plain : (found : Option ℕ) → IsPlain 0 (nullable_data number_data found)
number_or_none_plain None = record { whole = refl; flat = omega arith }
number_or_none_plain (Some n) = record { whole = refl; flat = omega arith }

pub prefix_or_none_plain : (found : Option (ℕ × ℕ)) → IsPlain 1 (nullable_data prefix_data found)
prefix_or_none_plain None = record { whole = refl; flat = omega arith }
prefix_or_none_plain (Some prefix) = record { whole = refl; flat = omega arith }

pub header_plain : (h : Header) → IsPlain 1 (header_data h)
header_plain h = record { whole = refl; flat = omega arith }

pub match_plain : (m : Match) → IsPlain 2 (match_data m)
match_plain m =
    let a = number_or_none_plain m.in_port in
    let b = number_or_none_plain m.dl_src in
    let c = number_or_none_plain m.dl_dst in
    let d = number_or_none_plain m.dl_vlan in
    let e = number_or_none_plain m.dl_vlan_pcp in
    let f = number_or_none_plain m.dl_type in
    let g = number_or_none_plain m.nw_tos in
    let h = number_or_none_plain m.nw_proto in
    let i = prefix_or_none_plain m.nw_src in
    let j = prefix_or_none_plain m.nw_dst in
    let k = number_or_none_plain m.tp_src in
    let l = number_or_none_plain m.tp_dst in
    record {
      whole = rw (a.whole, b.whole, c.whole, d.whole, e.whole, f.whole, g.whole, h.whole, i.whole, j.whole, k.whole, l.whole);
      flat = omega (arith, a.flat, b.flat, c.flat, d.flat, e.flat, f.flat, g.flat, h.flat, i.flat, j.flat, k.flat, l.flat);
    }

pub action_plain : (a : Action) → IsPlain 1 (action_data a)
action_plain (action.Output port max_len) = record { whole = refl; flat = omega arith }
action_plain (action.SetVlanVid vlan) = record { whole = refl; flat = omega arith }
action_plain (action.SetVlanPcp pcp) = record { whole = refl; flat = omega arith }
action_plain action.StripVlan = record { whole = refl; flat = omega arith }
action_plain (action.SetDlSrc address) = record { whole = refl; flat = omega arith }
action_plain (action.SetDlDst address) = record { whole = refl; flat = omega arith }
action_plain (action.SetNwSrc address) = record { whole = refl; flat = omega arith }
action_plain (action.SetNwDst address) = record { whole = refl; flat = omega arith }
action_plain (action.SetNwTos tos) = record { whole = refl; flat = omega arith }
action_plain (action.SetTpSrc port) = record { whole = refl; flat = omega arith }
action_plain (action.SetTpDst port) = record { whole = refl; flat = omega arith }
action_plain (action.Other type body) = record { whole = refl; flat = omega arith }

pub preset_plain : (preset : Preset) → IsPlain 3 (preset_data preset)
preset_plain preset =
    let m = match_plain preset.matches in
    let a = list_plain action_data 1 action_plain preset.actions in
    record { whole = rw (m.whole, a.whole); flat = omega (arith, m.flat, a.flat) }

pub switch_plain : (switch : SwitchDraft) → IsPlain 5 (switch_data switch)
switch_plain switch =
    let o = number_or_none_plain switch.owner in
    let p = list_plain preset_data 3 preset_plain switch.presets in
    record { whole = rw (o.whole, p.whole); flat = omega (arith, o.flat, p.flat) }

pub link_plain : (link : ℕ × ℕ × ℕ × ℕ) → IsPlain 1 (link_data link)
link_plain link = record { whole = refl; flat = omega arith }

pub host_plain : (host : ℕ × ℕ × ℕ) → IsPlain 1 (host_data host)
host_plain host = record { whole = refl; flat = omega arith }

pub invariant_plain : (one : Invariant) → IsPlain 3 (invariant_data one)
invariant_plain invariant.LoopFree = record { whole = refl; flat = omega arith }
invariant_plain invariant.NoBlackHole = record { whole = refl; flat = omega arith }
invariant_plain (invariant.Forbid src dst matches) =
    let m = match_plain matches in record { whole = rw m.whole; flat = omega (arith, m.flat) }

pub plan_plain : (one : Plan) → IsPlain 4 (plan_data one)
plan_plain (plan.Learning idle) = record { whole = refl; flat = omega arith }
plan_plain (plan.Firewall reinstall matches) =
    let m = list_plain match_data 2 match_plain matches in record { whole = rw m.whole; flat = omega (arith, m.flat) }
plan_plain (plan.Routing clear_on_down) = record { whole = refl; flat = omega arith }

pub input_plain : (mark : ℕ) (one : Input) → IsPlain 3 (input_data mark one)
input_plain mark (input.Inject host packet) = record { whole = refl; flat = omega arith }
input_plain mark (input.LinkDown link) = record { whole = refl; flat = omega arith }
input_plain mark (input.LinkUp link) = record { whole = refl; flat = omega arith }
input_plain mark (input.SwitchFail s) = record { whole = refl; flat = omega arith }
input_plain mark (input.SwitchUp s) = record { whole = refl; flat = omega arith }
input_plain mark (input.ControlDown s) = record { whole = refl; flat = omega arith }
input_plain mark (input.ControlUp s) = record { whole = refl; flat = omega arith }
input_plain mark (input.HostMove host s p) = record { whole = refl; flat = omega arith }
input_plain mark (input.Policy c deny) = let m = match_plain deny in record { whole = rw m.whole; flat = omega (arith, m.flat) }
input_plain mark (input.Seconds n) = record { whole = refl; flat = omega arith }

pub line_plain : (line : Line) → IsPlain 3 (line_data line)
line_plain line = input_plain _ line.input

pub draft_plain : (draft : Draft) → IsPlain 7 (draft_data draft)
draft_plain draft =
    let plans = list_plain (list_data plan_data) 5 (list_plain plan_data 4 plan_plain) draft.plans in
    let hosts = list_plain host_data 1 host_plain draft.topology.hosts in
    let invariants = list_plain invariant_data 3 invariant_plain draft.invariants in
    let links = list_plain link_data 1 link_plain draft.topology.links in
    let script = list_plain line_data 3 line_plain draft.script in
    let switches = list_plain switch_data 5 switch_plain (switches_of draft) in
    record {
      whole = rw (plans.whole, hosts.whole, invariants.whole, links.whole, script.whole, switches.whole);
      flat = omega (arith, plans.flat, hosts.flat, invariants.flat, links.flat, script.flat, switches.flat);
    }

pub deep_enough : (draft : Draft) → depth (draft_data draft) ≤ max_depth
deep_enough draft = let flat = (draft_plain draft).flat in omega arith

-- the text of a value that stands for plain data
pub text_of_plain : {E : Type 0} (r : Result (String Global) E) (v : Value) (most : ℕ) (d : Data) → view v ≡ d → IsPlain most d
    → IfOk r (λ s. has_float (view v) ≡ false → string_bytes s ≡ compact_text (view v)) → IfOk r (λ s. string_bytes s ≡ compact_text d)
text_of_plain (Ok s) v most d is plain says = says (ap has_float is ∙ plain.whole) ∙ ap compact_text is
text_of_plain (Err e) v most d is plain says = tt

-- the bytes of a value that stands for plain data
pub bytes_of_plain : {E : Type 0} (r : Result (Vec ℕ Global) E) (v : Value) (most : ℕ) (d : Data) → view v ≡ d → IsPlain most d
    → IfOk r (λ bytes. has_float (view v) ≡ false → bytes.items ≡ compact_text (view v)) → IfOk r (λ bytes. bytes.items ≡ compact_text d)
bytes_of_plain (Ok bytes) v most d is plain says = says (ap has_float is ∙ plain.whole) ∙ ap compact_text is
bytes_of_plain (Err e) v most d is plain says = tt

pub json_of_plain : {E : Type 0} (r : Result (Vec ℕ Global) E) (v : Value) (d : Data) → view v ≡ d → depth d ≤ max_depth
    → IfOk r (λ bytes. depth (view v) ≤ max_depth → IsJson bytes.items (view v)) → IfOk r (λ bytes. IsJson bytes.items d)
json_of_plain (Ok bytes) v d is shallow says = subst (IsJson bytes.items) is (says (subst (λ e. depth e ≤ max_depth) (sym is) shallow))
json_of_plain (Err e) v d is shallow says = tt

-- they read as the draft
pub draft_reads : {E : Type 0} (r : Result (Vec ℕ Global) E) (draft : Draft) → IfOk r (λ bytes. IsJson bytes.items (draft_data draft))
    → IfOk r (λ bytes. IsWideDraft draft → HasNarrowNames draft → IsText draft_of bytes.items draft)
draft_reads (Ok bytes) draft json = λ wide narrow. (draft_data draft, json, reads_back draft wide narrow)
draft_reads (Err e) draft json = tt
