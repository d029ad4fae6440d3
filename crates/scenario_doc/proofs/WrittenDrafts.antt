-- A whole scenario reads back.
use Rattle.std.proofs.Common.{◌≡◌, ℕ, ◌≤◌, ◌<◌, List, [], ◌∷◌, map, length, zip, All, Option, Ok, refl, sym, ap, ap₂, ◌∙◌, codes, arith, rules}
use Rattle.std.proofs.lemmas.List.Elements.{All-cons, All-head, All-nil, All-tail, All-weaker}
use Rattle.std.specs.Prelude.{IfSome}
use Rattle.topology.specs.declared.invariant.Invariant.{Invariant}
use Rattle.machine_setup.specs.declared.preset.Preset.{Preset}
use Rattle.machine_setup.specs.declared.script.Line.{Line}
use Rattle.doc_forms.specs.Forms.{keyed, list}
use Rattle.doc_forms.specs.Written.{list_data}
use Rattle.scenario_doc.specs.Draft.{draft_of, scenario_keys}
use Rattle.scenario_doc.specs.Network.{host_of, invariant_of, link_of, switch_of}
use Rattle.scenario_doc.specs.Plans.{plan_of}
use Rattle.scenario_doc.specs.Ranges.{AreWidePlans, IsWideDraft, IsWideHost, IsWideInvariant, IsWideLine, IsWidePreset, IsWideSwitch}
use Rattle.scenario_doc.specs.Script.{line_of}
use Rattle.scenario_doc.specs.Written.{HasNarrowNames, HasNarrowPorts, IsNarrow, IsNarrowHost, IsNarrowInvariant, IsNarrowLine, IsNarrowLink, IsNarrowPlan, draft_data, host_data, invariant_data, line_data, link_data, plan_data, switch_data, switches_of}
use Rattle.scenario_doc.specs.declared.draft.Draft.{Draft}
use Rattle.scenario_doc.specs.declared.network.SwitchDraft.{SwitchDraft}
use Rattle.scenario_doc.proofs.WrittenForms.{All-both, list_reads, number_reads}
use Rattle.scenario_doc.proofs.WrittenNetwork.{IsNarrowSwitch, host_reads, invariant_reads, link_reads, switch_reads}
use Rattle.scenario_doc.proofs.WrittenScript.{line_reads, plans_read}

-- lists side by side

abbrev Row : Type 0
Row = ℕ × (Option ℕ × List Preset)

abbrev switch_at : Row → SwitchDraft
switch_at s = record { ports = s.0; owner = s.1.0; presets = s.1.1 }

abbrev switches : List ℕ → List (Option ℕ) → List (List Preset) → List SwitchDraft
switches ports owner presets = map switch_at (zip ports (zip owner presets))

pub ports_of_switches : (ports : List ℕ) (owner : List (Option ℕ)) (presets : List (List Preset)) → length owner ≡ length ports → length presets ≡ length ports
    → map (λ s. s.ports) (switches ports owner presets) ≡ ports
ports_of_switches [] owner presets a b = refl
ports_of_switches (p ∷ ports) [] presets a b = absurd (omega arith)
ports_of_switches (p ∷ ports) (o ∷ owner) [] a b = absurd (omega arith)
ports_of_switches (p ∷ ports) (o ∷ owner) (x ∷ presets) a b = ap (λ xs. p ∷ xs) (ports_of_switches ports owner presets (omega arith) (omega arith))

pub owners_of_switches : (ports : List ℕ) (owner : List (Option ℕ)) (presets : List (List Preset)) → length owner ≡ length ports → length presets ≡ length ports
    → map (λ s. s.owner) (switches ports owner presets) ≡ owner
owners_of_switches [] [] presets a b = refl
owners_of_switches [] (o ∷ owner) presets a b = absurd (omega arith)
owners_of_switches (p ∷ ports) [] presets a b = absurd (omega arith)
owners_of_switches (p ∷ ports) (o ∷ owner) [] a b = absurd (omega arith)
owners_of_switches (p ∷ ports) (o ∷ owner) (x ∷ presets) a b = ap (λ xs. o ∷ xs) (owners_of_switches ports owner presets (omega arith) (omega arith))

pub presets_of_switches : (ports : List ℕ) (owner : List (Option ℕ)) (presets : List (List Preset)) → length owner ≡ length ports → length presets ≡ length ports
    → map (λ s. s.presets) (switches ports owner presets) ≡ presets
presets_of_switches [] owner [] a b = refl
presets_of_switches [] owner (x ∷ presets) a b = absurd (omega arith)
presets_of_switches (p ∷ ports) [] presets a b = absurd (omega arith)
presets_of_switches (p ∷ ports) (o ∷ owner) [] a b = absurd (omega arith)
presets_of_switches (p ∷ ports) (o ∷ owner) (x ∷ presets) a b = ap (λ xs. x ∷ xs) (presets_of_switches ports owner presets (omega arith) (omega arith))

pub length-switches : (ports : List ℕ) (owner : List (Option ℕ)) (presets : List (List Preset)) → length (switches ports owner presets) ≤ length ports
length-switches [] owner presets = omega arith
length-switches (p ∷ ports) [] presets = omega arith
length-switches (p ∷ ports) (o ∷ owner) [] = omega arith
length-switches (p ∷ ports) (o ∷ owner) (x ∷ presets) = omega (arith, length-switches ports owner presets)

abbrev IsWidePorts : ℕ → Type 0
IsWidePorts ports = (1 ≤ ports) × (ports ≤ 48)

abbrev AreWidePresets : List Preset → Type 0
AreWidePresets presets = (length presets ≤ 64) × All IsWidePreset presets

abbrev IsNarrowOwner : Option ℕ → Type 0
IsNarrowOwner owner = IfSome owner IsNarrow

abbrev SwitchReads : SwitchDraft → Type 0
SwitchReads s = switch_of (switch_data s) ≡ Ok s

pub each_switch_reads : (ports : List ℕ) (owner : List (Option ℕ)) (presets : List (List Preset))
    → All IsWidePorts ports → All AreWidePresets presets → All IsNarrowOwner owner → All (All HasNarrowPorts) presets
    → All SwitchReads (switches ports owner presets)
each_switch_reads [] owner presets a b c d = All-nil SwitchReads
each_switch_reads (p ∷ ports) [] presets a b c d = All-nil SwitchReads
each_switch_reads (p ∷ ports) (o ∷ owner) [] a b c d = All-nil SwitchReads
each_switch_reads (p ∷ ports) (o ∷ owner) (x ∷ presets) a b c d =
    let wide : AreWidePresets x = All-head AreWidePresets x presets b in
    let first : SwitchReads (switch_at (p, (o, x))) = switch_reads (switch_at (p, (o, x)))
    (record { ports = All-head IsWidePorts p ports a; few = wide.0; presets = wide.1 })
    (record { owner = All-head IsNarrowOwner o owner c; presets = All-head (All HasNarrowPorts) x presets d }) in
    All-cons SwitchReads (switch_at (p, (o, x))) (switches ports owner presets) first
    (each_switch_reads ports owner presets (All-tail IsWidePorts p ports a) (All-tail AreWidePresets x presets b)
    (All-tail IsNarrowOwner o owner c) (All-tail (All HasNarrowPorts) x presets d))

-- the parts of a draft

switches_read : (draft : Draft) → IsWideDraft draft → HasNarrowNames draft → list switch_of 64 (list_data switch_data (switches_of draft)) ≡ Ok (switches_of draft)
switches_read draft w n =
    let ports = draft.topology.ports in
    let owner = draft.topology.owner in
    let few : length (switches_of draft) ≤ 64 = omega (arith, length-switches ports owner draft.presets, w.few_switches) in
    list_reads switch_of switch_data 64 (switches_of draft) few
    (each_switch_reads ports owner draft.presets w.ports w.presets n.owners n.presets)

controllers_read : (draft : Draft) → IsWideDraft draft → HasNarrowNames draft → list (list plan_of 4) 8 (list_data (list_data plan_data) draft.plans) ≡ Ok draft.plans
controllers_read draft w n = list_reads (list plan_of 4) (list_data plan_data) 8 draft.plans w.few_plans
    (All-both AreWidePlans (All IsNarrowPlan) (λ plans. list plan_of 4 (list_data plan_data plans) ≡ Ok plans) plans_read draft.plans w.plans n.plans)

hosts_read : (draft : Draft) → IsWideDraft draft → HasNarrowNames draft → list host_of 128 (list_data host_data draft.topology.hosts) ≡ Ok draft.topology.hosts
hosts_read draft w n = list_reads host_of host_data 128 draft.topology.hosts w.few_hosts
    (All-both IsWideHost IsNarrowHost (λ h. host_of (host_data h) ≡ Ok h) host_reads draft.topology.hosts w.hosts n.hosts)

links_read : (draft : Draft) → IsWideDraft draft → HasNarrowNames draft → list link_of 256 (list_data link_data draft.topology.links) ≡ Ok draft.topology.links
links_read draft w n = list_reads link_of link_data 256 draft.topology.links w.few_links
    (All-weaker IsNarrowLink (λ l. link_of (link_data l) ≡ Ok l) link_reads draft.topology.links n.links)

invariants_read : (draft : Draft) → IsWideDraft draft → HasNarrowNames draft → list invariant_of 32 (list_data invariant_data draft.invariants) ≡ Ok draft.invariants
invariants_read draft w n = list_reads invariant_of invariant_data 32 draft.invariants w.few_invariants
    (All-both IsWideInvariant IsNarrowInvariant (λ i. invariant_of (invariant_data i) ≡ Ok i) invariant_reads draft.invariants w.invariants n.invariants)

script_reads : (draft : Draft) → IsWideDraft draft → HasNarrowNames draft → list line_of 256 (list_data line_data draft.script) ≡ Ok draft.script
script_reads draft w n = list_reads line_of line_data 256 draft.script w.few_lines
    (All-both IsWideLine IsNarrowLine (λ l. line_of (line_data l) ≡ Ok l) line_reads draft.script w.lines n.lines)

pub reads_back : (draft : Draft) → IsWideDraft draft → HasNarrowNames draft → draft_of (draft_data draft) ≡ Ok draft
reads_back draft w n =
    let ports = draft.topology.ports in
    let owner = draft.topology.owner in
    rw (
      number_reads 0 64 draft.limits.budget (omega arith) w.limits.budget,
      controllers_read draft w n,
      hosts_read draft w n,
      invariants_read draft w n,
      links_read draft w n,
      number_reads 1 16384 draft.limits.max_events w.limits.max_events.0 w.limits.max_events.1,
      number_reads 0 1000000 draft.limits.patience (omega arith) w.limits.patience,
      script_reads draft w n,
      switches_read draft w n,
      number_reads 1 8 draft.limits.workers w.limits.workers.0 w.limits.workers.1,
      ports_of_switches ports owner draft.presets w.owners w.lists,
      owners_of_switches ports owner draft.presets w.owners w.lists,
      presets_of_switches ports owner draft.presets w.owners w.lists,
    )
