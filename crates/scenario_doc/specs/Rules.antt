-- The rules by which the parts of a scenario fit one another, in the order in which they are tried: that of the document. Each is said
-- at its place. 10 there is no such switch, 11 no such port, 12 a link's end is taken by an earlier link's end or a host, or a host moves
-- to a link's end, 13 an earlier host stands there, 14 the address is an earlier host's, 15 there is no such controller, 16 no such link,
-- 17 no such host, 18 an address has bits past those that are compared, 19 a preset can't send to the port, 20 the match and priority
-- are those of an earlier preset.
use Rattle.std.specs.Prelude.{ℕ, ◌+◌, ◌-◌, ◌%◌, ◌^◌, ◌==◌, ◌&&◌, ◌||◌, List, [], ◌∷◌, ◌++◌, length, map, not, nat_le, nat_lt, slice_get, slice_index, take, Bool, Option, Some, None, Ok, codes, if◌then◌else◌, ⊤}
use Rattle.std.specs.Fmt.{decimal}
use Rattle.std.specs.List.{list_any}
use Rattle.std.specs.Option.{option_map_or}
use Rattle.flow_table.specs.Outcome.{is_port}
use Rattle.of10_match.specs.declared.matches.Match.{Match}
use Rattle.of10_match.specs.Match.{same}
use Rattle.of10_messages.specs.declared.action.Action.{Action}
use Rattle.of10_messages.specs.declared.action.Action.TheVariants as action
use Rattle.topology.specs.Network.{ends_of, is_place, places_of}
use Rattle.topology.specs.declared.invariant.Invariant.{Invariant}
use Rattle.topology.specs.declared.invariant.Invariant.TheVariants as invariant
use Rattle.topology.specs.declared.network.Topology.{Topology}
use Rattle.machine_setup.specs.declared.preset.Preset.{Preset}
use Rattle.machine_setup.specs.declared.script.Input.{Input}
use Rattle.machine_setup.specs.declared.script.Input.TheVariants as input
use Rattle.machine_setup.specs.declared.script.Line.{Line}
use Rattle.doc_forms.specs.Reading.{Reading, ◌>>=◌, require, under}
use Rattle.scenario_doc.specs.declared.plans.Plan.{Plan}
use Rattle.scenario_doc.specs.declared.plans.Plan.TheVariants as plan
use Rattle.scenario_doc.specs.declared.draft.Draft.{Draft}

-- a rule of an element of a list, by its place
abbrev pub at : ℕ → Reading ⊤ → Reading ⊤
at index = under (decimal index)

-- the rules of each element of a list, counted from a number on, in order
abbrev pub each_from : {A : Type 0} → ℕ → (ℕ → A → Reading ⊤) → List A → Reading ⊤
each_from first rules [] = Ok tt
each_from first rules (x ∷ xs) = do
  kept ← at first (rules first x)
  each_from (first + 1) rules xs

abbrev pub each : {A : Type 0} → (ℕ → A → Reading ⊤) → List A → Reading ⊤
each = each_from 0

-- ---- matches

-- an address has no bits past those that are compared
abbrev pub address_rules : Option (ℕ × ℕ) → Reading ⊤
address_rules None = Ok tt
address_rules (Some prefix) = at 0 (require 18 (prefix.0 % 2 ^ (32 - prefix.1) == 0))

-- both addresses of a match
abbrev pub match_rules : Match → Reading ⊤
match_rules m = do
  source ← at 8 (address_rules m.nw_src)
  at 9 (address_rules m.nw_dst)

-- ---- the network

-- a switch of so many
abbrev pub switch_rules : Topology → ℕ → Reading ⊤
switch_rules network s = require 10 (nat_lt s (length network.ports))

-- a port of a switch
abbrev pub port_rules : Topology → ℕ → ℕ → Reading ⊤
port_rules network s p = require 11 (nat_le 1 p && nat_le p (slice_index network.ports s))

-- a port that is none of some places
abbrev pub free_rules : List (ℕ × ℕ) → ℕ → ℕ → Reading ⊤
free_rules taken s p = require 12 (not (list_any (is_place s p) taken))

abbrev pub host_number_rules : Topology → ℕ → Reading ⊤
host_number_rules network h = require 17 (nat_lt h (length network.hosts))

-- a host: no earlier one is at its place or has its address
abbrev pub host_rules : Topology → ℕ → ℕ × ℕ × ℕ → Reading ⊤
host_rules network index (s, p, mac) = let earlier = take index network.hosts in do
  alone ← require 13 (not (list_any (is_place s p) (places_of earlier)))
  there ← at 0 (switch_rules network s)
  port ← at 1 (port_rules network s p)
  at 2 (require 14 (not (list_any (λ host. host.2 == mac) earlier)))

-- a link: neither end is that of an earlier link, or a host's place, and they are two
abbrev pub link_rules : Topology → ℕ → ℕ × ℕ × ℕ × ℕ → Reading ⊤
link_rules network index (s, p, t, q) = let taken = ends_of (take index network.links) ++ places_of network.hosts in do
  one ← at 0 (switch_rules network s)
  one_port ← at 1 (do
    port ← port_rules network s p
    free_rules taken s p)
  other ← at 2 (switch_rules network t)
  at 3 (do
    port ← port_rules network t q
    free_rules ((s, p) ∷ taken) t q)

-- an invariant names hosts
abbrev pub invariant_rules : Topology → Invariant → Reading ⊤
invariant_rules network (invariant.Forbid src dst matches) = do
  source ← at 1 (host_number_rules network src)
  destination ← at 2 (host_number_rules network dst)
  at 3 (match_rules matches)
invariant_rules network other = Ok tt

-- ---- presets

-- a port to which a preset may send: one of the switch's, IN_PORT (0xfff8), FLOOD (0xfffb), ALL (0xfffc) or CONTROLLER (0xfffd)
abbrev pub is_preset_port : ℕ → ℕ → Bool
is_preset_port ports port = is_port ports port || port == 65528 || port == 65531 || port == 65532 || port == 65533

abbrev pub action_rules : ℕ → Action → Reading ⊤
action_rules ports (action.Output port max_len) = at 1 (require 19 (is_preset_port ports port))
action_rules ports other = Ok tt

-- whether two presets can't be told apart
abbrev pub same_key : Preset → Preset → Bool
same_key one other = same one.matches other.matches && one.priority == other.priority

-- a preset of a switch with so many ports, beside those before it
abbrev pub preset_rules : ℕ → List Preset → ℕ → Preset → Reading ⊤
preset_rules ports presets index preset = do
  alone ← require 20 (not (list_any (same_key preset) (take index presets)))
  matches ← at 0 (match_rules preset.matches)
  at 2 (each (λ k one. action_rules ports one) preset.actions)

-- a switch has a controller of so many, or none
abbrev pub owner_rules : ℕ → Option ℕ → Reading ⊤
owner_rules controllers None = Ok tt
owner_rules controllers (Some c) = require 15 (nat_lt c controllers)

-- ---- controllers

-- the rules of a firewall
abbrev pub plan_rules : Plan → Reading ⊤
plan_rules (plan.Firewall reinstall rules) = at 2 (each (λ r one. match_rules one) rules)
plan_rules other = Ok tt

-- ---- the script

-- an input names what the network has; a host moves to a port at which no link ends
abbrev pub input_rules : Topology → ℕ → Input → Reading ⊤
input_rules network controllers (input.Inject host packet) = at 2 (host_number_rules network host)
input_rules network controllers (input.LinkDown link) = at 2 (require 16 (nat_lt link (length network.links)))
input_rules network controllers (input.LinkUp link) = at 2 (require 16 (nat_lt link (length network.links)))
input_rules network controllers (input.SwitchFail s) = at 2 (switch_rules network s)
input_rules network controllers (input.SwitchUp s) = at 2 (switch_rules network s)
input_rules network controllers (input.ControlDown s) = at 2 (switch_rules network s)
input_rules network controllers (input.ControlUp s) = at 2 (switch_rules network s)
input_rules network controllers (input.HostMove host s p) = do
  moved ← at 2 (host_number_rules network host)
  there ← at 3 (switch_rules network s)
  at 4 (do
    port ← port_rules network s p
    free_rules (ends_of network.links) s p)
input_rules network controllers (input.Policy c deny) = do
  controller ← at 2 (require 15 (nat_lt c controllers))
  at 3 (match_rules deny)
input_rules network controllers (input.Seconds n) = Ok tt

-- ---- the whole

-- the controller of a switch, or none
abbrev pub owner_at : List (Option ℕ) → ℕ → Option ℕ
owner_at owners s = option_map_or (λ owner. owner) (slice_get owners s) None

-- the presets of a switch
abbrev pub presets_at : List (List Preset) → ℕ → List Preset
presets_at lists s = option_map_or (λ presets. presets) (slice_get lists s) []

-- a switch with so many ports: its controller and its presets
abbrev pub switch_parts_rules : Draft → ℕ → ℕ → Reading ⊤
switch_parts_rules draft s ports = do
  owned ← at 1 (owner_rules (length draft.plans) (owner_at draft.topology.owner s))
  at 2 (each (preset_rules ports (presets_at draft.presets s)) (presets_at draft.presets s))

-- all rules of a scenario, in the order of its keys
abbrev pub draft_rules : Draft → Reading ⊤
draft_rules draft = do
  controllers ← under (codes "controllers") (each (λ c plans. each (λ a one. plan_rules one) plans) draft.plans)
  hosts ← under (codes "hosts") (each (host_rules draft.topology) draft.topology.hosts)
  invariants ← under (codes "invariants") (each (λ i one. invariant_rules draft.topology one) draft.invariants)
  links ← under (codes "links") (each (link_rules draft.topology) draft.topology.links)
  script ← under (codes "script") (each (λ k line. input_rules draft.topology (length draft.plans) line.input) draft.script)
  under (codes "switches") (each (switch_parts_rules draft) draft.topology.ports)
