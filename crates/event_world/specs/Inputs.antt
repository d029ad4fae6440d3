-- What each input does to the part of the world that all actors share.
use Rattle.std.specs.Prelude.{ℕ, ◌-◌, ◌^◌, ◌&&◌, List, [], ◌∷◌, ◌++◌, map, filter, filter_map, slice_get, slice_set, slice_index, sum, Bool, true, false, not, Option, Some, None, is_none, is_some, option_and_then, if◌then◌else◌}
use Rattle.std.specs.List.{enumerate_from, list_any, range_with_len}
use Rattle.std.specs.Option.{option_map_or}
use Rattle.of10_messages.specs.declared.notice.Notice.{Notice}
use Rattle.of10_messages.specs.declared.notice.Notice.TheVariants.{Tick, Port, Join}
use Rattle.of10_match.specs.declared.packet.Packet.{Packet}
use Rattle.message_pools.specs.declared.item.Item.{Item}
use Rattle.message_pools.specs.declared.item.Item.TheVariants as item
use Rattle.pool_book.specs.declared.name.PoolName.{PoolName}
use Rattle.pool_book.specs.declared.name.PoolName.TheVariants.{Ctl, Pkt, Note, App, Admin}
use Rattle.topology.specs.Network.{far_end}
use Rattle.topology.specs.Status.{host_at, is_up}
use Rattle.topology.specs.declared.network.Topology.{Topology}
use Rattle.topology.specs.declared.status.Status.{Status}
use Rattle.machine_setup.specs.declared.script.Input.{Input}
use Rattle.machine_setup.specs.declared.script.Input.TheVariants.{Inject, LinkDown, LinkUp, SwitchFail, SwitchUp, ControlDown, ControlUp, HostMove, Policy, Seconds}
use Rattle.event_world.specs.Mail.{Mail, owner_of}
use Rattle.event_world.specs.declared.effect.Effect.{Effect}

-- nothing
abbrev pub no_effect : Status → Effect
no_effect status = record { status = status; flushes = []; mail = [] }

-- no more than that something is put into pools
abbrev pub sends_only : Status → Mail → Effect
sends_only status mail = record { status = status; flushes = []; mail = mail }

-- ---- words of the table

-- the switch is told something
abbrev pub tells : ℕ → Notice → PoolName × Item
tells s notice = (Note s, item.Notice notice)

-- both ends of a link, the first end first
abbrev pub ends_at : Topology → ℕ → List (ℕ × ℕ)
ends_at topology link = option_map_or (λ ends. (ends.0, ends.1) ∷ (ends.2, ends.3) ∷ []) (slice_get topology.links link) []

-- whether a packet can cross the link that ends at a port: the link and the switch at its other end are up
abbrev pub is_open : Status → ℕ × ℕ × ℕ → Bool
is_open status far = is_up status.link_up far.0 && is_up status.switch_up far.1

-- the ports of a switch, in order
abbrev pub ports_of : Topology → ℕ → List ℕ
ports_of topology s = range_with_len 1 (slice_index topology.ports s)

-- The neighbours of a switch are told that the links to it are down or up: for each of its ports in order, the switch at the
-- other end of the link there, if the link and that switch are up.
abbrev pub tells_neighbours : Topology → Status → ℕ → Bool → Mail
tells_neighbours topology status s down =
    filter_map (λ port. option_and_then (λ far. if is_open status far then Some (tells far.1 (Port far.2 down)) else None) (far_end topology s port)) (ports_of topology s)

-- the ports of a switch, as a mask with bit p - 1 for port p, at which a link ends that no packet can cross
abbrev pub down_mask : Topology → Status → ℕ → ℕ
down_mask topology status s =
    sum (map (λ port. if option_map_or (λ far. not (is_open status far)) (far_end topology s port) false then 2 ^ (port - 1) else 0) (ports_of topology s))

-- the switch joins its controller, if it has one and the channel is up
abbrev pub joins : Topology → Status → ℕ → Mail
joins topology status s =
    if is_up status.control_up s then option_map_or (λ c. tells s (Join (down_mask topology status s)) ∷ []) (owner_of topology s) [] else []

-- the controller of a switch, if it has one, hears that the channel is gone
abbrev pub tells_gone : Topology → ℕ → Mail
tells_gone topology s = option_map_or (λ c. (App c s, item.Gone) ∷ []) (owner_of topology s) []

-- the pool of messages from a switch to its controller, if it has one
abbrev pub app_of : Topology → ℕ → List PoolName
app_of topology s = option_map_or (λ c. App c s ∷ []) (owner_of topology s) []

-- the pools of a switch: messages to it, packets at its ports, notices, messages from it
abbrev pub pools_of : Topology → ℕ → List PoolName
pools_of topology s = Ctl s ∷ map (Pkt s) (ports_of topology s) ++ Note s ∷ app_of topology s

-- the pools of the channel between a switch and its controller
abbrev pub channel_of : Topology → ℕ → List PoolName
channel_of topology s = Ctl s ∷ app_of topology s

-- ---- the table, a case for each input. A failure of what is down, and a recovery of what is up, do nothing.

-- a packet comes to the port at which the host is, if that switch is up
abbrev pub injected : Status → Packet → Option (ℕ × ℕ) → Effect
injected status packet None = no_effect status
injected status packet (Some place) =
    if is_up status.switch_up place.0 then sends_only status ((Pkt place.0 place.1, item.Packet packet) ∷ []) else no_effect status

-- what waits at both ends is lost, and each end whose switch is up is told
abbrev pub link_down : Topology → Status → ℕ → Effect
link_down topology status link = record {
  status = record status { link_up = slice_set status.link_up link false };
  flushes = map (λ end. Pkt end.0 end.1) (ends_at topology link);
  mail = map (λ end. tells end.0 (Port end.1 true)) (filter (λ end. is_up status.switch_up end.0) (ends_at topology link));
}

-- each end whose switch is up is told, if the other's is up too
abbrev pub link_up : Topology → Status → ℕ → Effect
link_up topology status link = record {
  status = record status { link_up = slice_set status.link_up link true };
  flushes = [];
  mail = if list_any (λ end. not (is_up status.switch_up end.0)) (ends_at topology link) then []
      else map (λ end. tells end.0 (Port end.1 false)) (ends_at topology link);
}

-- all that waits at the switch is lost, and its messages to its controller; that hears that it is gone, if the channel was up,
-- and its neighbours hear that their links are down
abbrev pub switch_fails : Topology → Status → ℕ → Effect
switch_fails topology status s = let after = record status { switch_up = slice_set status.switch_up s false } in record {
  status = after;
  flushes = pools_of topology s;
  mail = (if is_up status.control_up s then tells_gone topology s else []) ++ tells_neighbours topology after s true;
}

-- the neighbours are told that their links are up, and then the switch joins its controller
abbrev pub switch_comes : Topology → Status → ℕ → Effect
switch_comes topology status s = let after = record status { switch_up = slice_set status.switch_up s true } in record {
  status = after;
  flushes = [];
  mail = tells_neighbours topology after s false ++ joins topology after s;
}

-- what waits in the channel of a switch that is up is lost, and the controller hears that the channel is gone
abbrev pub channel_down : Topology → Status → ℕ → Effect
channel_down topology status s = record {
  status = record status { control_up = slice_set status.control_up s false };
  flushes = if is_up status.switch_up s then channel_of topology s else [];
  mail = if is_up status.switch_up s then tells_gone topology s else [];
}

-- a switch that is up joins its controller
abbrev pub channel_up : Topology → Status → ℕ → Effect
channel_up topology status s = let after = record status { control_up = slice_set status.control_up s true } in record {
  status = after;
  flushes = [];
  mail = if is_up status.switch_up s then joins topology after s else [];
}

-- the host is at another port, unless another host is there
abbrev pub host_moves : Status → ℕ → ℕ × ℕ → Effect
host_moves status host place =
    if is_none (host_at status place.0 place.1) then no_effect (record status { place = slice_set status.place host place }) else no_effect status

-- each switch that is up is told
abbrev pub seconds_pass : Status → ℕ → Effect
seconds_pass status n =
    sends_only status (map (λ switch. tells switch.0 (Tick n)) (filter (λ switch. switch.1) (enumerate_from 0 status.switch_up)))

-- whether a switch has a controller
abbrev pub has_owner : Topology → ℕ → Bool
has_owner topology s = is_some (owner_of topology s)

abbrev pub effect : Topology → Status → Input → Effect
effect topology status (Inject host packet) = injected status packet (slice_get status.place host)
effect topology status (LinkDown link) = if is_up status.link_up link then link_down topology status link else no_effect status
effect topology status (LinkUp link) = if is_up status.link_up link then no_effect status else link_up topology status link
effect topology status (SwitchFail s) = if is_up status.switch_up s then switch_fails topology status s else no_effect status
effect topology status (SwitchUp s) = if is_up status.switch_up s then no_effect status else switch_comes topology status s
effect topology status (ControlDown s) =
    if has_owner topology s && is_up status.control_up s then channel_down topology status s else no_effect status
effect topology status (ControlUp s) =
    if has_owner topology s && not (is_up status.control_up s) then channel_up topology status s else no_effect status
effect topology status (HostMove host s p) = host_moves status host (s, p)
effect topology status (Policy c deny) = sends_only status ((Admin c, item.Policy deny) ∷ [])
effect topology status (Seconds n) = seconds_pass status n

-- the switch that an input makes lose its state, if it makes one
abbrev pub fails : Status → Input → Option ℕ
fails status (SwitchFail s) = if is_up status.switch_up s then Some s else None
fails status input = None
