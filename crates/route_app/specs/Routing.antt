-- A routing application: what it keeps, the next hop, and how it reacts.
use Rattle.std.specs.Prelude.{ℕ, ◌==◌, ◌&&◌, ◌%◌, List, [], ◌∷◌, length, map, fold, replicate, zip, Bool, false, Option, Some, None, option_and_then, if◌then◌else◌}
use Rattle.std.specs.List.{find}
use Rattle.std.specs.Option.{option_map_or}
use Rattle.app_messages.specs.Sent.{Sighting, added, header_of, out_of, seen_in, sent_on}
use Rattle.controller_api.specs.Reaction.{Reaction}
use Rattle.controller_api.specs.declared.item.UpItem.{UpItem}
use Rattle.controller_api.specs.declared.item.UpItem.TheVariants.{FromSwitch}
use Rattle.of10_match.specs.Match.{any_match}
use Rattle.of10_messages.specs.declared.message.Message.{Message}
use Rattle.of10_messages.specs.declared.message.Message.TheVariants.{FeaturesReply, FlowMod, PortStatus}
use Rattle.of10_messages.specs.declared.port.PortDesc.{PortDesc}
use Rattle.topology.specs.Network.{is_place}
use Rattle.route_app.specs.Paths.{exits_of, next_hop, up_of}
use Rattle.route_app.specs.declared.map.Map.{Map}

-- what a routing application keeps: whether it clears entries to a port told down, its network, and for each link whether its first
-- and its second end are told down
pub record Router : Type 0 where
  pub clear_on_down : Bool
  pub map : Map
  pub down : List (Bool × Bool)

-- as it was made: nothing is told down
abbrev pub router_of : Bool → Map → Router
router_of clear map = record { clear_on_down = clear; map = map; down = replicate (length map.links) (false, false) }

-- whether port p of switch s is told down changes at the ends that are there
abbrev pub told_of_link : ℕ → ℕ → Bool → (ℕ × ℕ × ℕ × ℕ) × (Bool × Bool) → Bool × Bool
told_of_link s p is_down (link, ends) =
    (if is_place s p (link.0, link.1) then is_down else ends.0, if is_place s p (link.2, link.3) then is_down else ends.1)

-- which ends are told down, once a port is told down, or up
abbrev pub told_ends : ℕ → ℕ → Bool → List (ℕ × ℕ × ℕ × ℕ) → List (Bool × Bool) → List (Bool × Bool)
told_ends s p is_down links down = map (told_of_link s p is_down) (zip links down)

-- a switch tells that a port of it is down, or up
abbrev pub told : ℕ → ℕ → Bool → Router → Router
told s p is_down router = record router { down = told_ends s p is_down router.map.links router.down }

-- a port says that its link is down by bit 0 of its state (OpenFlow 1.0.0 section 5.2.1)
abbrev pub says_down : PortDesc → Bool
says_down port = port.state % 2 == 1

-- each port that a switch lists is, in order
abbrev pub all_told_ends : ℕ → List PortDesc → List (ℕ × ℕ × ℕ × ℕ) → List (Bool × Bool) → List (Bool × Bool)
all_told_ends s ports links down = fold (λ d port. told_ends s port.port_no (says_down port) links d) down ports

-- a switch lists its ports
abbrev pub told_all : ℕ → List PortDesc → Router → Router
told_all s ports router = record router { down = all_told_ends s ports router.map.links router.down }

-- the links of which neither end is told down
abbrev pub usable : Router → List (ℕ × ℕ × ℕ × ℕ)
usable router = up_of router.map.links router.down

-- the next hop from a switch to another
abbrev pub hop : Router → ℕ → ℕ → Option ℕ
hop router from to = next_hop (exits_of (usable router)) from to

-- The port of a switch for packets to a MAC address: of the first host with the address, its own port where it is at the switch,
-- else the next hop to its switch.
abbrev pub way_to : Router → ℕ → ℕ → Option ℕ
way_to router s address =
    option_and_then (λ host. if host.0 == s then Some host.1 else hop router s host.0) (find (λ host. host.2 == address) router.map.hosts)

-- a DELETE of all entries that send to a port (section 5.3.3)
abbrev pub clearing : ℕ → Message
clearing port = FlowMod 0 (record {
  matches = any_match;
  cookie = 0;
  command = 3;
  idle_timeout = 0;
  hard_timeout = 0;
  priority = 0;
  buffer_id = 4294967295;
  out_port = port;
  flags = 0;
  actions = [];
})

-- the entry that sends packets to a MAC address out of a port
abbrev pub entry_to : ℕ → ℕ → Message
entry_to address port = added (record any_match { dl_dst = Some address }) 100 0 (out_of port)

-- what is sent for a packet that has a way on: the entry, then the packet itself
abbrev pub forwarding : ℕ → Sighting → ℕ → List (ℕ × Message)
forwarding s seen port = (s, entry_to (header_of seen).dl_dst port) ∷ (s, sent_on seen port) ∷ []

-- nothing is done
abbrev pub unmoved : Router → Reaction Router
unmoved router = record { state = router; sent = [] }

-- a packet was sent up
abbrev pub at_packet : ℕ → Sighting → Router → Reaction Router
at_packet s seen router = record { state = router; sent = option_map_or (forwarding s seen) (way_to router s (header_of seen).dl_dst) [] }

-- a port has changed: where it is down its entries may be cleared
abbrev pub at_port : ℕ → PortDesc → Router → Reaction Router
at_port s port router = record {
  state = told s port.port_no (says_down port) router;
  sent = if says_down port && router.clear_on_down then (s, clearing port.port_no) ∷ [] else [];
}

-- it reacts to what a switch tells of its ports, and to packets
abbrev pub routing : Router → UpItem → Reaction Router
routing router (FromSwitch s (FeaturesReply xid features)) = record { state = told_all s features.ports router; sent = [] }
routing router (FromSwitch s (PortStatus xid reason port)) = at_port s port router
routing router (FromSwitch s message) = option_map_or (λ seen. at_packet s seen router) (seen_in message) (unmoved router)
routing router other = unmoved router
