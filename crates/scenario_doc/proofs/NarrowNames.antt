-- What a draft that keeps all rules names has 16 bits.
use Rattle.std.proofs.Common.{arith, ◌≡◌, ℕ, ◌<◌, ◌≤◌, List, [], ◌∷◌, ◌++◌, length, map, get_or, zero, suc, All, Option, Some, None, Ok, Err, Result, Vec, Global, IfOk, refl, ap, subst, sym, ◌∙◌, codes, rules}
use Rattle.std.specs.Prelude.{IfSome}
use Rattle.std.proofs.lemmas.List.Elements.{All-cons, All-head, All-nil, All-tail, All-weaker}
use Rattle.of10_messages.specs.declared.action.Action.{Action}
use Rattle.of10_messages.specs.declared.action.Action.TheVariants as action
use Rattle.topology.specs.Network.{IsPort, ends_of, places_of}
use Rattle.topology.specs.declared.invariant.Invariant.{Invariant}
use Rattle.topology.specs.declared.invariant.Invariant.TheVariants as invariant
use Rattle.topology.specs.declared.network.Topology.{Topology}
use Rattle.machine_setup.specs.Setup.{IsInput, IsOwner}
use Rattle.machine_setup.specs.declared.preset.Preset.{Preset}
use Rattle.machine_setup.specs.declared.script.Input.{Input}
use Rattle.machine_setup.specs.declared.script.Input.TheVariants as input
use Rattle.machine_setup.specs.declared.script.Line.{Line}
use Rattle.scenario_doc.specs.Fit.{IsFit}
use Rattle.scenario_doc.specs.Ranges.{IsWideAction, IsWideDraft, IsWideInvariant, IsWidePreset}
use Rattle.scenario_doc.specs.Rules.{draft_rules}
use Rattle.scenario_doc.specs.Written.{HasNarrowNames, HasNarrowPort, HasNarrowPorts, IsNarrow, IsNarrowHost, IsNarrowInput, IsNarrowInvariant, IsNarrowLine, IsNarrowLink, IsNarrowPlan}
use Rattle.scenario_doc.specs.declared.draft.Draft.{Draft}
use Rattle.scenario_doc.proofs.Fit.{fits}

abbrev IsFewPorts : ℕ → Type 0
IsFewPorts ports = (1 ≤ ports) × (ports ≤ 48)

owner_narrow : (controllers : ℕ) → controllers ≤ 8 → (owner : Option ℕ) → IsOwner controllers owner → IfSome owner IsNarrow
owner_narrow controllers few None h = tt
owner_narrow controllers few (Some c) h = omega arith

action_narrow : (one : Action) → IsWideAction one → HasNarrowPort one
action_narrow (action.Output port max_len) wide = omega arith
action_narrow (action.SetVlanVid vlan) wide = tt
action_narrow (action.SetVlanPcp pcp) wide = tt
action_narrow action.StripVlan wide = tt
action_narrow (action.SetDlSrc address) wide = tt
action_narrow (action.SetDlDst address) wide = tt
action_narrow (action.SetNwSrc address) wide = tt
action_narrow (action.SetNwDst address) wide = tt
action_narrow (action.SetNwTos tos) wide = tt
action_narrow (action.SetTpSrc port) wide = tt
action_narrow (action.SetTpDst port) wide = tt
action_narrow (action.Other kind body) wide = tt

preset_narrow : (preset : Preset) → IsWidePreset preset → HasNarrowPorts preset
preset_narrow preset wide = All-weaker IsWideAction HasNarrowPort action_narrow preset.actions wide.actions

presets_narrow : (presets : List Preset) → (length presets ≤ 64) × All IsWidePreset presets → All HasNarrowPorts presets
presets_narrow presets wide = All-weaker IsWidePreset HasNarrowPorts preset_narrow presets wide.1

invariant_narrow : (one : Invariant) → IsWideInvariant one → IsNarrowInvariant one
invariant_narrow invariant.LoopFree wide = tt
invariant_narrow invariant.NoBlackHole wide = tt
invariant_narrow (invariant.Forbid src dst matches) wide = let a = wide.0 in let b = wide.1 in (omega arith, omega arith)

-- a port of few switches with few ports
port_narrow : (ports : List ℕ) → length ports ≤ 64 → All IsFewPorts ports → (place : ℕ × ℕ) → IsPort ports place → IsNarrow place.0 × IsNarrow place.1
port_narrow ports few all place port =
    let most = (all place.0 0 port.0).1 in
    let a = port.0 in
    let b = port.2 in
    (omega arith, omega arith)

links_narrow : (P : ℕ × ℕ → Type 0) → ((place : ℕ × ℕ) → P place → IsNarrow place.0 × IsNarrow place.1) → (links : List (ℕ × ℕ × ℕ × ℕ))
    → All P (ends_of links) → All IsNarrowLink links
links_narrow P narrow [] h = All-nil IsNarrowLink
links_narrow P narrow (link ∷ links) h =
    let rest : List (ℕ × ℕ) = (link.2, link.3) ∷ ends_of links in
    let one = narrow (link.0, link.1) (All-head P (link.0, link.1) rest h) in
    let more = All-tail P (link.0, link.1) rest h in
    let other = narrow (link.2, link.3) (All-head P (link.2, link.3) (ends_of links) more) in
    All-cons IsNarrowLink link links (one.0, one.1, other.0, other.1)
    (links_narrow P narrow links (All-tail P (link.2, link.3) (ends_of links) more))

hosts_narrow : (P : ℕ × ℕ → Type 0) → ((place : ℕ × ℕ) → P place → IsNarrow place.0 × IsNarrow place.1) → (hosts : List (ℕ × ℕ × ℕ))
    → All P (places_of hosts) → All IsNarrowHost hosts
hosts_narrow P narrow [] h = All-nil IsNarrowHost
hosts_narrow P narrow (host ∷ hosts) h =
    All-cons IsNarrowHost host hosts (narrow (host.0, host.1) (All-head P (host.0, host.1) (places_of hosts) h))
    (hosts_narrow P narrow hosts (All-tail P (host.0, host.1) (places_of hosts) h))

-- networks of few things
record IsFew (network : Topology) (count : ℕ) : Type 0 where
  switches : length network.ports ≤ 64
  ports : All IsFewPorts network.ports
  links : length network.links ≤ 256
  hosts : length network.hosts ≤ 128
  controllers : count ≤ 8

input_narrow : (network : Topology) (controllers : ℕ) → IsFew network controllers → (one : Input) → IsInput network controllers one → IsNarrowInput one
input_narrow network controllers few (input.Inject host packet) h = let a = h.0 in omega (arith, few.hosts)
input_narrow network controllers few (input.LinkDown link) h = omega (arith, few.links)
input_narrow network controllers few (input.LinkUp link) h = omega (arith, few.links)
input_narrow network controllers few (input.SwitchFail s) h = omega (arith, few.switches)
input_narrow network controllers few (input.SwitchUp s) h = omega (arith, few.switches)
input_narrow network controllers few (input.ControlDown s) h = omega (arith, few.switches)
input_narrow network controllers few (input.ControlUp s) h = omega (arith, few.switches)
input_narrow network controllers few (input.HostMove host s p) h =
    let a = h.0 in
    let place = port_narrow network.ports few.switches few.ports (s, p) h.1.0 in
    (omega (arith, few.hosts), place.0, place.1)
input_narrow network controllers few (input.Policy c deny) h = let a = h.0 in omega (arith, few.controllers)
input_narrow network controllers few (input.Seconds n) h = tt

few_things : (draft : Draft) → IsWideDraft draft → IsFew draft.topology (length draft.plans)
few_things draft wide = record {
  switches = wide.few_switches;
  ports = wide.ports;
  links = wide.few_links;
  hosts = wide.few_hosts;
  controllers = wide.few_plans;
}

pub narrow_names : (draft : Draft) → IsWideDraft draft → draft_rules draft ≡ Ok tt → All (All IsNarrowPlan) draft.plans → HasNarrowNames draft
narrow_names draft wide kept plans =
    let network = draft.topology in
    let fit = fits draft wide kept in
    let few = few_things draft wide in
    let places = port_narrow network.ports wide.few_switches wide.ports in
    record {
      owners = All-weaker (IsOwner (length draft.plans)) (λ owner. IfSome owner IsNarrow) (owner_narrow (length draft.plans) wide.few_plans)
          network.owner fit.valid.network.switches.owned;
      presets = All-weaker (λ presets. (length presets ≤ 64) × All IsWidePreset presets) (All HasNarrowPorts) presets_narrow draft.presets wide.presets;
      links = links_narrow (IsPort network.ports) places network.links fit.valid.network.wired.ends;
      hosts = hosts_narrow (IsPort network.ports) places network.hosts fit.valid.network.wired.places;
      plans = plans;
      invariants = All-weaker IsWideInvariant IsNarrowInvariant invariant_narrow draft.invariants wide.invariants;
      lines = All-weaker (λ (line : Line). IsInput network (length draft.plans) line.input) IsNarrowLine
          (λ line. input_narrow network (length draft.plans) few line.input) draft.script fit.valid.inputs;
    }
