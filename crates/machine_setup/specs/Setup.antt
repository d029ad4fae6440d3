-- Which scenarios can run.
use Rattle.std.specs.Prelude.{◌≡◌, ◌≢◌, ℕ, ◌<◌, ◌≤◌, ◌^◌, ◌⊎◌, List, ◌++◌, length, map, slice_get, slice_index, All, AllPairs, IsTrue, Option, Some, None}
use Rattle.of10_match.specs.Match.{IsValidMatch}
use Rattle.of10_match.specs.Packet.{IsValidPacket}
use Rattle.of10_match.specs.declared.matches.Match.{Match}
use Rattle.of10_messages.specs.declared.action.Action.{Action}
use Rattle.of10_messages.specs.declared.action.Action.TheVariants as action
use Rattle.flow_table.specs.Outcome.{is_port}
use Rattle.flow_table.specs.declared.entry.Entry.{Entry}
use Rattle.topology.specs.Network.{IsPort, ends_of, places_of}
use Rattle.topology.specs.declared.network.Topology.{Topology}
use Rattle.machine_setup.specs.declared.preset.Preset.{Preset}
use Rattle.machine_setup.specs.declared.script.Input.{Input}
use Rattle.machine_setup.specs.declared.script.Input.TheVariants.{Inject, LinkDown, LinkUp, SwitchFail, SwitchUp, ControlDown, ControlUp, HostMove, Policy, Seconds}
use Rattle.machine_setup.specs.declared.script.Line.{Line}
use Rattle.machine_setup.specs.declared.setup.Limits.{Limits}
use Rattle.machine_setup.specs.declared.setup.Setup.{Setup}

-- ---- the network

-- a switch has no controller, or one of so many
abbrev pub IsOwner : ℕ → Option ℕ → Type 0
IsOwner controllers None = Unit {0}
IsOwner controllers (Some c) = c < controllers

-- switches: at most 64, each with 1 to 48 ports; a controller or none for each
pub record IsSwitches (topology : Topology) (controllers : ℕ) : Type 0 where
  pub count : length topology.ports ≤ 64
  pub ports : All (λ ports. (1 ≤ ports) × (ports ≤ 48)) topology.ports
  pub owners : length topology.owner ≡ length topology.ports
  pub owned : All (IsOwner controllers) topology.owner

-- Wiring: every port has at most one thing at it, a link's end or a host. Each host has a MAC address of its own, which is not
-- 0 and has 48 bits.
pub record IsWired (topology : Topology) : Type 0 where
  pub ends : All (IsPort topology.ports) (ends_of topology.links)
  pub places : All (IsPort topology.ports) (places_of topology.hosts)
  pub apart : AllPairs (λ one other. one ≢ other) (ends_of topology.links ++ places_of topology.hosts)
  pub addresses : All (λ host. (1 ≤ host.2) × (host.2 < 2 ^ 48)) topology.hosts
  pub differ : AllPairs (λ one other. one ≢ other) (map (λ host. host.2) topology.hosts)

-- a network of switches, links and hosts, under so many controllers
pub record IsNetwork (topology : Topology) (controllers : ℕ) : Type 0 where
  pub switches : IsSwitches topology controllers
  pub links : length topology.links ≤ 256
  pub hosts : length topology.hosts ≤ 128
  pub wired : IsWired topology

-- ---- presets: the entries with which a switch starts

-- a port that an Output of a preset may name: one of the switch's, IN_PORT (0xfff8), FLOOD (0xfffb), ALL (0xfffc) or
-- CONTROLLER (0xfffd)
abbrev pub IsPresetPort : ℕ → ℕ → Type 0
IsPresetPort ports port = IsTrue (is_port ports port) ⊎ (port ≡ 65528) ⊎ (port ≡ 65531) ⊎ (port ≡ 65532) ⊎ (port ≡ 65533)

-- an action of a preset, at a switch with so many ports: each field lies within its range
abbrev pub IsPresetAction : ℕ → Action → Type 0
IsPresetAction ports (action.Output port max_len) = IsPresetPort ports port × (max_len < 2 ^ 16)
IsPresetAction ports (action.SetVlanVid vlan) = vlan ≤ 4095
IsPresetAction ports (action.SetVlanPcp pcp) = pcp ≤ 7
IsPresetAction ports action.StripVlan = Unit {0}
IsPresetAction ports (action.SetDlSrc address) = address < 2 ^ 48
IsPresetAction ports (action.SetDlDst address) = address < 2 ^ 48
IsPresetAction ports (action.SetNwSrc address) = address < 2 ^ 32
IsPresetAction ports (action.SetNwDst address) = address < 2 ^ 32
IsPresetAction ports (action.SetNwTos tos) = tos < 2 ^ 8
IsPresetAction ports (action.SetTpSrc port) = port < 2 ^ 16
IsPresetAction ports (action.SetTpDst port) = port < 2 ^ 16
IsPresetAction ports (action.Other kind body) = ⊥

-- a preset of a switch with so many ports: at most 16 actions; of the flags at most that for removals (bit 0)
pub record IsPreset (ports : ℕ) (preset : Preset) : Type 0 where
  pub matches : IsValidMatch preset.matches
  pub priority : preset.priority < 2 ^ 16
  pub few : length preset.actions ≤ 16
  pub actions : All (IsPresetAction ports) preset.actions
  pub idle : preset.idle < 2 ^ 16
  pub hard : preset.hard < 2 ^ 16
  pub flags : preset.flags ≤ 1
  pub cookie : preset.cookie < 2 ^ 64

-- the entry as which a preset stands in the table at the start: added at time 0, and no packet yet
abbrev pub entry_of : Preset → Entry
entry_of preset = record {
  matches = preset.matches;
  priority = preset.priority;
  cookie = preset.cookie;
  idle = preset.idle;
  hard = preset.hard;
  flags = preset.flags;
  actions = preset.actions;
  added = 0;
  hit = 0;
  packets = 0;
  bytes = 0;
}

-- what tells two presets of a switch apart
abbrev pub key_of : Preset → Match × ℕ
key_of preset = (preset.matches, preset.priority)

-- the presets of a switch with so many ports: at most 64, no two of which have one match and one priority
pub record IsPresetsAt (ports : ℕ) (presets : List Preset) : Type 0 where
  pub few : length presets ≤ 64
  pub each : All (IsPreset ports) presets
  pub differ : AllPairs (λ one other. one ≢ other) (map key_of presets)

-- a list of presets for each switch
pub record IsPresets (ports : List ℕ) (presets : List (List Preset)) : Type 0 where
  pub lists : length presets ≡ length ports
  pub each : (s : ℕ) (list : List Preset) → slice_get presets s ≡ Some list → IsPresetsAt (slice_index ports s) list

-- ---- the script

-- A host may move to a port at which no link ends.
abbrev pub IsFreePort : Topology → ℕ × ℕ → Type 0
IsFreePort topology place = IsPort topology.ports place × All (λ end. end ≢ place) (ends_of topology.links)

-- an input names what the network has, of so many controllers, and 1 to 1,000,000 seconds
abbrev pub IsInput : Topology → ℕ → Input → Type 0
IsInput topology controllers (Inject host packet) = (host < length topology.hosts) × IsValidPacket packet
IsInput topology controllers (LinkDown link) = link < length topology.links
IsInput topology controllers (LinkUp link) = link < length topology.links
IsInput topology controllers (SwitchFail s) = s < length topology.ports
IsInput topology controllers (SwitchUp s) = s < length topology.ports
IsInput topology controllers (ControlDown s) = s < length topology.ports
IsInput topology controllers (ControlUp s) = s < length topology.ports
IsInput topology controllers (HostMove host s p) = (host < length topology.hosts) × IsFreePort topology (s, p)
IsInput topology controllers (Policy c deny) = (c < controllers) × IsValidMatch deny
IsInput topology controllers (Seconds n) = (1 ≤ n) × (n ≤ 1000000)

-- ---- the whole

-- the ranges of the limits
pub record IsLimits (limits : Limits) : Type 0 where
  pub max_events : (1 ≤ limits.max_events) × (limits.max_events ≤ 16384)
  pub budget : limits.budget ≤ 64
  pub workers : (1 ≤ limits.workers) × (limits.workers ≤ 8)
  pub patience : limits.patience ≤ 1000000

-- the parts of a scenario that can run
pub record IsValid (topology : Topology) (presets : List (List Preset)) (controllers : ℕ) (script : List Line) (limits : Limits) : Type 0 where
  pub network : IsNetwork topology controllers
  pub few : controllers ≤ 8
  pub starts : IsPresets topology.ports presets
  pub lines : length script ≤ 256
  pub inputs : All (λ line. IsInput topology controllers line.input) script
  pub bounds : IsLimits limits

module _ {C : Type 0} where
  -- a scenario that can run
  abbrev pub IsValidSetup : Setup C → Type 0
  IsValidSetup setup = IsValid setup.topology setup.presets (length setup.controllers) setup.script setup.limits
