-- What is written for a scenario, part by part: the data that reads as it.
use Rattle.std.specs.Prelude.{◌≡◌, ℕ, ◌≤◌, List, [], ◌∷◌, map, zip, All, IfSome, Option, Ok, Bool, codes, if◌then◌else◌}
use Rattle.serde_json.specs.Data.{Data, null, boolean, string, object, member, no_members}
use Rattle.of10_match.specs.declared.header.Header.{Header}
use Rattle.of10_match.specs.declared.matches.Match.{Match}
use Rattle.of10_match.specs.declared.packet.Packet.{Packet}
use Rattle.of10_messages.specs.declared.action.Action.{Action}
use Rattle.of10_messages.specs.declared.action.Action.TheVariants as action
use Rattle.topology.specs.declared.invariant.Invariant.{Invariant}
use Rattle.topology.specs.declared.invariant.Invariant.TheVariants as invariant
use Rattle.machine_setup.specs.declared.preset.Preset.{Preset}
use Rattle.machine_setup.specs.declared.script.Input.{Input}
use Rattle.machine_setup.specs.declared.script.Input.TheVariants as input
use Rattle.machine_setup.specs.declared.script.Line.{Line}
use Rattle.doc_forms.specs.Written.{list_data, nullable_data, number_data, parts_data}
use Rattle.scenario_doc.specs.Draft.{draft_of}
use Rattle.scenario_doc.specs.Ranges.{IsWideDraft}
use Rattle.scenario_doc.specs.declared.draft.Draft.{Draft}
use Rattle.scenario_doc.specs.declared.network.SwitchDraft.{SwitchDraft}
use Rattle.scenario_doc.specs.declared.plans.Plan.{Plan}
use Rattle.scenario_doc.specs.declared.plans.Plan.TheVariants as plan

-- ---- headers and matches

-- a header: its eleven fields in order
abbrev pub header_data : Header → Data
header_data h = parts_data (number_data h.dl_src ∷ number_data h.dl_dst ∷ number_data h.dl_vlan ∷ number_data h.dl_vlan_pcp
    ∷ number_data h.dl_type ∷ number_data h.nw_tos ∷ number_data h.nw_proto ∷ number_data h.nw_src ∷ number_data h.nw_dst
    ∷ number_data h.tp_src ∷ number_data h.tp_dst ∷ [])

-- an address, and how many of its leading bits are compared
abbrev pub prefix_data : ℕ × ℕ → Data
prefix_data prefix = parts_data (number_data prefix.0 ∷ number_data prefix.1 ∷ [])

-- a match: its twelve fields in order, null for one that takes everything
abbrev pub match_data : Match → Data
match_data m = parts_data (nullable_data number_data m.in_port ∷ nullable_data number_data m.dl_src ∷ nullable_data number_data m.dl_dst
    ∷ nullable_data number_data m.dl_vlan ∷ nullable_data number_data m.dl_vlan_pcp ∷ nullable_data number_data m.dl_type
    ∷ nullable_data number_data m.nw_tos ∷ nullable_data number_data m.nw_proto ∷ nullable_data prefix_data m.nw_src
    ∷ nullable_data prefix_data m.nw_dst ∷ nullable_data number_data m.tp_src ∷ nullable_data number_data m.tp_dst ∷ [])

-- ---- presets

-- an action that sets a field: its type (OpenFlow 1.0.0 section 5.2.4, ofp_action_type) and the value
abbrev pub set_data : ℕ → ℕ → Data
set_data type value = parts_data (string (codes "set") ∷ number_data type ∷ number_data value ∷ [])

-- an action by its word; one of any other type has no form, and null stands for it
abbrev pub action_data : Action → Data
action_data (action.Output port max_len) = parts_data (string (codes "output") ∷ number_data port ∷ number_data max_len ∷ [])
action_data (action.SetVlanVid vlan) = set_data 1 vlan
action_data (action.SetVlanPcp pcp) = set_data 2 pcp
action_data action.StripVlan = parts_data (string (codes "strip") ∷ [])
action_data (action.SetDlSrc address) = set_data 4 address
action_data (action.SetDlDst address) = set_data 5 address
action_data (action.SetNwSrc address) = set_data 6 address
action_data (action.SetNwDst address) = set_data 7 address
action_data (action.SetNwTos tos) = set_data 8 tos
action_data (action.SetTpSrc port) = set_data 9 port
action_data (action.SetTpDst port) = set_data 10 port
action_data (action.Other type body) = null

-- a preset: match, priority, actions, idle and hard timeout, flags and cookie
abbrev pub preset_data : Preset → Data
preset_data preset = parts_data (match_data preset.matches ∷ number_data preset.priority ∷ list_data action_data preset.actions
    ∷ number_data preset.idle ∷ number_data preset.hard ∷ number_data preset.flags ∷ number_data preset.cookie ∷ [])

-- ---- the network

-- a switch: its number of ports, its controller or null, and its presets
abbrev pub switch_data : SwitchDraft → Data
switch_data switch = parts_data (number_data switch.ports ∷ nullable_data number_data switch.owner ∷ list_data preset_data switch.presets ∷ [])

-- a link: switch and port of one end, then of the other
abbrev pub link_data : ℕ × ℕ × ℕ × ℕ → Data
link_data link = parts_data (number_data link.0 ∷ number_data link.1 ∷ number_data link.2 ∷ number_data link.3 ∷ [])

-- a host: switch and port, and its MAC address
abbrev pub host_data : ℕ × ℕ × ℕ → Data
host_data host = parts_data (number_data host.0 ∷ number_data host.1 ∷ number_data host.2 ∷ [])

-- an invariant by its word
abbrev pub invariant_data : Invariant → Data
invariant_data invariant.LoopFree = parts_data (string (codes "loop") ∷ [])
invariant_data invariant.NoBlackHole = parts_data (string (codes "blackhole") ∷ [])
invariant_data (invariant.Forbid src dst matches) =
    parts_data (string (codes "forbid") ∷ number_data src ∷ number_data dst ∷ match_data matches ∷ [])

-- ---- controllers

-- an application by its word
abbrev pub plan_data : Plan → Data
plan_data (plan.Learning idle) = parts_data (string (codes "learning") ∷ number_data idle ∷ [])
plan_data (plan.Firewall reinstall rules) = parts_data (string (codes "firewall") ∷ boolean reinstall ∷ list_data match_data rules ∷ [])
plan_data (plan.Routing clear_on_down) = parts_data (string (codes "routing") ∷ boolean clear_on_down ∷ [])

-- ---- the script

-- the mark of a line: 1 where it waits for quiet
abbrev pub mark_of : Bool → ℕ
mark_of after_quiet = if after_quiet then 1 else 0

-- a line that names one thing
abbrev pub short_data : ℕ → List ℕ → ℕ → Data
short_data mark word n = parts_data (number_data mark ∷ string word ∷ number_data n ∷ [])

-- a host sends a packet
abbrev pub inject_data : ℕ → ℕ → Packet → Data
inject_data mark host packet =
    parts_data (number_data mark ∷ string (codes "inject") ∷ number_data host ∷ header_data packet.header ∷ number_data packet.tag ∷ [])

-- a host moves
abbrev pub move_data : ℕ → ℕ → ℕ → ℕ → Data
move_data mark host s p =
    parts_data (number_data mark ∷ string (codes "hostmove") ∷ number_data host ∷ number_data s ∷ number_data p ∷ [])

-- a controller is told what to deny
abbrev pub policy_data : ℕ → ℕ → Match → Data
policy_data mark c deny = parts_data (number_data mark ∷ string (codes "policy") ∷ number_data c ∷ match_data deny ∷ [])

-- a line by its mark and its input: the mark, the word, and what it asks for
abbrev pub input_data : ℕ → Input → Data
input_data mark (input.Inject host packet) = inject_data mark host packet
input_data mark (input.LinkDown link) = short_data mark (codes "linkdown") link
input_data mark (input.LinkUp link) = short_data mark (codes "linkup") link
input_data mark (input.SwitchFail s) = short_data mark (codes "switchfail") s
input_data mark (input.SwitchUp s) = short_data mark (codes "switchup") s
input_data mark (input.ControlDown s) = short_data mark (codes "controldown") s
input_data mark (input.ControlUp s) = short_data mark (codes "controlup") s
input_data mark (input.HostMove host s p) = move_data mark host s p
input_data mark (input.Policy c deny) = policy_data mark c deny
input_data mark (input.Seconds n) = short_data mark (codes "seconds") n

-- a line
abbrev pub line_data : Line → Data
line_data line = input_data (mark_of line.after_quiet) line.input

-- ---- the whole

-- lists of ports, controllers and presets side by side: switches
abbrev pub switches_beside : List ℕ → List (Option ℕ) → List (List Preset) → List SwitchDraft
switches_beside ports owners presets =
    map (λ s. record { ports = s.0; owner = s.1.0; presets = s.1.1 }) (zip ports (zip owners presets))

-- the switches of a scenario
abbrev pub switches_of : Draft → List SwitchDraft
switches_of draft = switches_beside draft.topology.ports draft.topology.owner draft.presets

-- a scenario: an object, its keys in byte order
abbrev pub draft_data : Draft → Data
draft_data draft = object
    (member (codes "budget") (number_data draft.limits.budget)
    (member (codes "controllers") (list_data (list_data plan_data) draft.plans)
    (member (codes "hosts") (list_data host_data draft.topology.hosts)
    (member (codes "invariants") (list_data invariant_data draft.invariants)
    (member (codes "links") (list_data link_data draft.topology.links)
    (member (codes "max_events") (number_data draft.limits.max_events)
    (member (codes "patience") (number_data draft.limits.patience)
    (member (codes "script") (list_data line_data draft.script)
    (member (codes "sts") (number_data 1)
    (member (codes "switches") (list_data switch_data (switches_of draft))
    (member (codes "workers") (number_data draft.limits.workers)
    no_members)))))))))))

-- ---- names

-- the number of a switch, port, link, host or controller has 16 bits
abbrev pub IsNarrow : ℕ → Type 0
IsNarrow n = n ≤ 65535

-- that of a host or a controller's port in an action
abbrev pub HasNarrowPort : Action → Type 0
HasNarrowPort (action.Output port max_len) = IsNarrow port
HasNarrowPort other = Unit {0}

-- the ports to which presets send
abbrev pub HasNarrowPorts : Preset → Type 0
HasNarrowPorts preset = All HasNarrowPort preset.actions

-- the ends of a link
abbrev pub IsNarrowLink : ℕ × ℕ × ℕ × ℕ → Type 0
IsNarrowLink link = IsNarrow link.0 × IsNarrow link.1 × IsNarrow link.2 × IsNarrow link.3

-- where a host is
abbrev pub IsNarrowHost : ℕ × ℕ × ℕ → Type 0
IsNarrowHost host = IsNarrow host.0 × IsNarrow host.1

-- the hosts of an invariant
abbrev pub IsNarrowInvariant : Invariant → Type 0
IsNarrowInvariant (invariant.Forbid src dst matches) = IsNarrow src × IsNarrow dst
IsNarrowInvariant other = Unit {0}

-- what an input names
abbrev pub IsNarrowInput : Input → Type 0
IsNarrowInput (input.Inject host packet) = IsNarrow host
IsNarrowInput (input.LinkDown link) = IsNarrow link
IsNarrowInput (input.LinkUp link) = IsNarrow link
IsNarrowInput (input.SwitchFail s) = IsNarrow s
IsNarrowInput (input.SwitchUp s) = IsNarrow s
IsNarrowInput (input.ControlDown s) = IsNarrow s
IsNarrowInput (input.ControlUp s) = IsNarrow s
IsNarrowInput (input.HostMove host s p) = IsNarrow host × IsNarrow s × IsNarrow p
IsNarrowInput (input.Policy c deny) = IsNarrow c
IsNarrowInput (input.Seconds n) = Unit {0}

abbrev pub IsNarrowLine : Line → Type 0
IsNarrowLine line = IsNarrowInput line.input

-- the idle seconds of a learning switch, which are read as a number of 16 bits too
abbrev pub IsNarrowPlan : Plan → Type 0
IsNarrowPlan (plan.Learning idle) = IsNarrow idle
IsNarrowPlan other = Unit {0}

-- all names in a scenario, and those seconds
pub record HasNarrowNames (draft : Draft) : Type 0 where
  pub owners : All (λ owner. IfSome owner IsNarrow) draft.topology.owner
  pub presets : All (All HasNarrowPorts) draft.presets
  pub links : All IsNarrowLink draft.topology.links
  pub hosts : All IsNarrowHost draft.topology.hosts
  pub plans : All (All IsNarrowPlan) draft.plans
  pub invariants : All IsNarrowInvariant draft.invariants
  pub lines : All IsNarrowLine draft.script

-- what is written for a scenario reads as it
abbrev pub ReadsBack : Type 0
ReadsBack = (draft : Draft) → IsWideDraft draft → HasNarrowNames draft → draft_of (draft_data draft) ≡ Ok draft
