-- A learning switch: what it knows, and how it reacts.
use Rattle.std.specs.Prelude.{ℕ, ◌==◌, ◌&&◌, Bool, true, false, List, [], ◌∷◌, filter_map, refl, reverse, slice_get, Option, Some, None, option_and_then, if◌then◌else◌}
use Rattle.std.specs.Coded.{Coded, code_by, coded×, coded_ℕ}
use Rattle.std.specs.Option.{option_map_or}
use Rattle.app_messages.specs.Sent.{Sighting, added, exact_match, header_of, out_of, seen_in, sent_on}
use Rattle.controller_api.specs.Reaction.{Reaction}
use Rattle.controller_api.specs.declared.item.UpItem.{UpItem}
use Rattle.controller_api.specs.declared.item.UpItem.TheVariants.{FromSwitch}
use Rattle.controller_apps.specs.Ports.{Ports, entry_at, no_ports, port_at, ports_code, with_port, without_switch}
use Rattle.of10_messages.specs.declared.message.Message.{Message}
use Rattle.of10_messages.specs.declared.message.Message.TheVariants.{FeaturesReply, PacketIn}

-- after how many idle seconds its entries go, and at which port of a switch it knows an address
pub record Learner : Type 0 where
  pub idle : ℕ
  pub known : Ports

-- a learner is stored as the pair of its fields
abbrev pub learner_code : Coded Learner
learner_code = code_by (ℕ × Ports) (coded× coded_ℕ ports_code) (λ l. (l.idle, l.known)) (λ p. record { idle = p.0; known = p.1 }) (λ _. refl)

-- the port of a switch at which it knows an address
abbrev pub port_of : Learner → ℕ → ℕ → Option ℕ
port_of learner s address = port_at s address learner.known

-- it knows no address
abbrev pub unlearnt : ℕ → Learner
unlearnt idle = record { idle = idle; known = no_ports }

-- all that was learnt at a switch is forgotten
abbrev pub forgotten : ℕ → Learner → Learner
forgotten s learner = record learner { known = without_switch s learner.known }

-- the source of a packet that a switch sent up is at the port by which it came in
abbrev pub learnt : ℕ → Sighting → Learner → Learner
learnt s seen learner = record learner { known = with_port s (header_of seen).dl_src seen.in_port learner.known }

-- What is sent for a packet that a switch sent up, by the port at which its destination is known. Where that is not known the
-- packet goes out of all ports but its own (FLOOD, 0xfffb); where it is the packet's own port nothing is sent; else an entry
-- for packets with this header by this port, and the packet itself, to the port.
abbrev pub answers : ℕ → ℕ → Sighting → Option ℕ → List (ℕ × Message)
answers idle s seen None = (s, sent_on seen 65531) ∷ []
answers idle s seen (Some port) =
    if port == seen.in_port then []
    else (s, added (exact_match seen.in_port (header_of seen)) 32768 idle (out_of port)) ∷ (s, sent_on seen port) ∷ []

-- a packet was sent up: first its source is learnt
abbrev pub at_packet : ℕ → Sighting → Learner → Reaction Learner
at_packet s seen learner = let after = learnt s seen learner in
    record { state = after; sent = answers learner.idle s seen (port_of after s (header_of seen).dl_dst) }

-- nothing is done
abbrev pub unmoved : Learner → Reaction Learner
unmoved learner = record { state = learner; sent = [] }

-- A switch that tells its features has started anew. Of other messages only a PACKET_IN with a record counts.
abbrev pub learning : Learner → UpItem → Reaction Learner
learning learner (FromSwitch s (FeaturesReply xid features)) = record { state = forgotten s learner; sent = [] }
learning learner (FromSwitch s message) = option_map_or (λ seen. at_packet s seen learner) (seen_in message) (unmoved learner)
learning learner other = unmoved learner

-- whether an item is a packet that a switch sent up: nothing else is learnt from
abbrev pub is_packet : UpItem → Bool
is_packet (FromSwitch s (PacketIn xid buffer_id total_len in_port reason content)) = true
is_packet other = false

-- what a learner knows where a packet will be learnt from: of the switch and of the packet's source there
abbrev pub known_before : Learner → UpItem → Option (Option ℕ)
known_before learner (FromSwitch s message) = option_and_then (λ seen. entry_at s (header_of seen).dl_src learner.known) (seen_in message)
known_before learner other = None

-- ---- what is known, by the items heard

-- what an item tells of where an address is at a switch, if it tells anything: at a port, or nowhere known
abbrev pub told_of : ℕ → ℕ → UpItem → Option (Option ℕ)
told_of s address (FromSwitch t (FeaturesReply xid features)) = if t == s then Some None else None
told_of s address (FromSwitch t message) =
    option_and_then (λ seen. if t == s && address == (header_of seen).dl_src then Some (Some seen.in_port) else None) (seen_in message)
told_of s address other = None

-- the last that was told of it: the in-port of the last packet from the switch that had the address as its source, since the
-- switch last told its features
abbrev pub last_told : ℕ → ℕ → List UpItem → Option ℕ
last_told s address items = option_and_then (λ told. told) (slice_get (reverse (filter_map (told_of s address) items)) 0)
