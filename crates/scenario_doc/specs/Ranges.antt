-- What holds of each part of a scenario document that has its form: numbers lie in their ranges, and lists are not too long.
use Rattle.std.specs.Prelude.{◌≡◌, ℕ, ◌<◌, ◌≤◌, ◌^◌, List, length, All, IfSome, Option}
use Rattle.of10_match.specs.Field.{IsValidNumber}
use Rattle.of10_match.specs.Packet.{IsValidPacket}
use Rattle.of10_match.specs.declared.matches.Match.{Match}
use Rattle.of10_messages.specs.declared.action.Action.{Action}
use Rattle.of10_messages.specs.declared.action.Action.TheVariants as action
use Rattle.topology.specs.declared.invariant.Invariant.{Invariant}
use Rattle.topology.specs.declared.invariant.Invariant.TheVariants as invariant
use Rattle.topology.specs.declared.network.Topology.{Topology}
use Rattle.machine_setup.specs.Setup.{IsLimits}
use Rattle.machine_setup.specs.declared.preset.Preset.{Preset}
use Rattle.machine_setup.specs.declared.script.Input.{Input}
use Rattle.machine_setup.specs.declared.script.Input.TheVariants as input
use Rattle.machine_setup.specs.declared.script.Line.{Line}
use Rattle.scenario_doc.specs.declared.draft.Draft.{Draft}
use Rattle.scenario_doc.specs.declared.network.SwitchDraft.{SwitchDraft}
use Rattle.scenario_doc.specs.declared.plans.Plan.{Plan}
use Rattle.scenario_doc.specs.declared.plans.Plan.TheVariants as plan

-- an address and how many of its leading bits are compared; others may be set
pub record IsWidePrefix (prefix : ℕ × ℕ) : Type 0 where
  pub address : prefix.0 < 2 ^ 32
  pub some : 1 ≤ prefix.1
  pub most : prefix.1 ≤ 32

-- a match is valid, but for bits of its addresses that are not compared
pub record IsWideMatch (m : Match) : Type 0 where
  pub in_port : IsValidNumber 16 m.in_port
  pub dl_src : IsValidNumber 48 m.dl_src
  pub dl_dst : IsValidNumber 48 m.dl_dst
  pub dl_vlan : IsValidNumber 16 m.dl_vlan
  pub dl_vlan_pcp : IsValidNumber 8 m.dl_vlan_pcp
  pub dl_type : IsValidNumber 16 m.dl_type
  pub nw_tos : IsValidNumber 8 m.nw_tos
  pub nw_proto : IsValidNumber 8 m.nw_proto
  pub nw_src : IfSome m.nw_src IsWidePrefix
  pub nw_dst : IfSome m.nw_dst IsWidePrefix
  pub tp_src : IsValidNumber 16 m.tp_src
  pub tp_dst : IsValidNumber 16 m.tp_dst

-- an action of a preset is one, but for its port
abbrev pub IsWideAction : Action → Type 0
IsWideAction (action.Output port max_len) = (port < 2 ^ 16) × (max_len < 2 ^ 16)
IsWideAction (action.SetVlanVid vlan) = vlan ≤ 4095
IsWideAction (action.SetVlanPcp pcp) = pcp ≤ 7
IsWideAction action.StripVlan = Unit {0}
IsWideAction (action.SetDlSrc address) = address < 2 ^ 48
IsWideAction (action.SetDlDst address) = address < 2 ^ 48
IsWideAction (action.SetNwSrc address) = address < 2 ^ 32
IsWideAction (action.SetNwDst address) = address < 2 ^ 32
IsWideAction (action.SetNwTos tos) = tos < 2 ^ 8
IsWideAction (action.SetTpSrc port) = port < 2 ^ 16
IsWideAction (action.SetTpDst port) = port < 2 ^ 16
IsWideAction (action.Other kind body) = ⊥

-- a preset is one, but for its match and its ports
pub record IsWidePreset (preset : Preset) : Type 0 where
  pub matches : IsWideMatch preset.matches
  pub priority : preset.priority < 2 ^ 16
  pub few : length preset.actions ≤ 16
  pub actions : All IsWideAction preset.actions
  pub idle : preset.idle < 2 ^ 16
  pub hard : preset.hard < 2 ^ 16
  pub flags : preset.flags ≤ 1
  pub cookie : preset.cookie < 2 ^ 64

-- a switch has 1 to 48 ports and at most 64 presets
pub record IsWideSwitch (switch : SwitchDraft) : Type 0 where
  pub ports : (1 ≤ switch.ports) × (switch.ports ≤ 48)
  pub few : length switch.presets ≤ 64
  pub presets : All IsWidePreset switch.presets

-- an invariant's match
abbrev pub IsWideInvariant : Invariant → Type 0
IsWideInvariant (invariant.Forbid src dst matches) = (src < 2 ^ 16) × (dst < 2 ^ 16) × IsWideMatch matches
IsWideInvariant other = Unit {0}

-- a host's address is not 0 and has 48 bits
abbrev pub IsWideHost : ℕ × ℕ × ℕ → Type 0
IsWideHost host = (1 ≤ host.2) × (host.2 < 2 ^ 48)

-- an application: a firewall has at most 64 rules
abbrev pub IsWidePlan : Plan → Type 0
IsWidePlan (plan.Firewall reinstall rules) = (length rules ≤ 64) × All IsWideMatch rules
IsWidePlan other = Unit {0}

-- the applications of a controller, at most four
abbrev pub AreWidePlans : List Plan → Type 0
AreWidePlans plans = (length plans ≤ 4) × All IsWidePlan plans

-- an input: a packet is valid, seconds are 1 to 1,000,000
abbrev pub IsWideInput : Input → Type 0
IsWideInput (input.Inject host packet) = IsValidPacket packet
IsWideInput (input.Policy c deny) = IsWideMatch deny
IsWideInput (input.Seconds n) = (1 ≤ n) × (n ≤ 1000000)
IsWideInput other = Unit {0}

abbrev pub IsWideLine : Line → Type 0
IsWideLine line = IsWideInput line.input

-- the whole
pub record IsWideDraft (draft : Draft) : Type 0 where
  pub few_switches : length draft.topology.ports ≤ 64
  pub ports : All (λ ports. (1 ≤ ports) × (ports ≤ 48)) draft.topology.ports
  pub owners : length draft.topology.owner ≡ length draft.topology.ports
  pub lists : length draft.presets ≡ length draft.topology.ports
  pub presets : All (λ presets. (length presets ≤ 64) × All IsWidePreset presets) draft.presets
  pub few_links : length draft.topology.links ≤ 256
  pub few_hosts : length draft.topology.hosts ≤ 128
  pub hosts : All IsWideHost draft.topology.hosts
  pub few_plans : length draft.plans ≤ 8
  pub plans : All AreWidePlans draft.plans
  pub few_lines : length draft.script ≤ 256
  pub lines : All IsWideLine draft.script
  pub limits : IsLimits draft.limits
  pub few_invariants : length draft.invariants ≤ 32
  pub invariants : All IsWideInvariant draft.invariants
