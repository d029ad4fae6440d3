-- What is up and where the hosts are: at the start, and what follows for a packet that leaves by a port.
use Rattle.std.specs.Prelude.{◌≡◌, ◌≢◌, ℕ, ◌<◌, ◌^◌, List, ◌++◌, length, replicate, filter_map, slice_get, All, AllPairs, Bool, true, false, Option, Some, None, unwrap_or, if◌then◌else◌}
use Rattle.std.specs.List.{enumerate_from}
use Rattle.topology.specs.Network.{IsPort, ends_of, far_end, is_place, places_of}
use Rattle.topology.specs.declared.landing.Landing.{Landing}
use Rattle.topology.specs.declared.landing.Landing.TheVariants.{Wire, Host, Lost}
use Rattle.topology.specs.declared.landing.Why.TheVariants.{Nothing, LinkIsDown, SwitchIsDown}
use Rattle.topology.specs.declared.network.Topology.{Topology}
use Rattle.topology.specs.declared.status.Status.{Status}

-- all links, switches and control channels are up, and each host is where the topology has it
abbrev pub start_of : Topology → Status
start_of topology = record {
  link_up = replicate (length topology.links) true;
  switch_up = replicate (length topology.ports) true;
  control_up = replicate (length topology.ports) true;
  place = places_of topology.hosts;
}

-- whether the link, switch or control channel of a number is up
abbrev pub is_up : List Bool → ℕ → Bool
is_up flags number = unwrap_or (slice_get flags number) false

-- the host at a port
abbrev pub host_at : Status → ℕ → ℕ → Option ℕ
host_at status s p = slice_get (filter_map (λ host. if is_place s p host.1 then Some host.0 else None) (enumerate_from 0 status.place)) 0

-- By a link a packet comes to the far end where the link and the far switch are up; else it comes to the host at the port, if
-- there is one.
abbrev pub landing_of : Status → Option (ℕ × ℕ × ℕ) → Option ℕ → Landing
landing_of status (Some far) host =
    if is_up status.link_up far.0
    then (if is_up status.switch_up far.1 then Wire far.1 far.2 else Lost SwitchIsDown)
    else Lost LinkIsDown
landing_of status None (Some host) = Host host
landing_of status None None = Lost Nothing

-- where a packet comes to that leaves switch s by port p
abbrev pub landing : Topology → Status → ℕ → ℕ → Landing
landing topology status s p = landing_of status (far_end topology s p) (host_at status s p)

-- A status of the network: one flag for each link, and one of each kind for each switch; each host is at a port of its own,
-- at which no link ends. Numbers of links and hosts fit 16 bits.
pub record IsStatus (topology : Topology) (status : Status) : Type 0 where
  pub links : length status.link_up ≡ length topology.links
  pub switches : length status.switch_up ≡ length topology.ports
  pub controls : length status.control_up ≡ length topology.ports
  pub hosts : length status.place ≡ length topology.hosts
  pub ends : All (IsPort topology.ports) (ends_of topology.links)
  pub places : All (IsPort topology.ports) status.place
  pub apart : AllPairs (λ one other. one ≢ other) (ends_of topology.links ++ status.place)
  pub few_switches : length topology.ports < 2 ^ 16
  pub few_links : length topology.links < 2 ^ 16
  pub few_hosts : length topology.hosts < 2 ^ 16
