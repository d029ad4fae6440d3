-- The parts of a message's bytes at their places in the structs of OpenFlow 1.0.0 section 5, and what of a message each
-- part is read as.
use Rattle.std.specs.Prelude.{ℕ, ◌==◌, ◌||◌, Bool, List, [], map, take, drop, slice_index, Option, Some, None, if◌then◌else◌}
use Rattle.byteorder.specs.Endian.{big_from}
use Rattle.of10_match.specs.declared.matches.Match.{Match}
use Rattle.of10_messages.specs.Refusal.{action_starts, out_actions, told_length}
use Rattle.of10_messages.specs.declared.action.Action.{Action}
use Rattle.of10_messages.specs.declared.message.Message.{Message}
use Rattle.of10_messages.specs.declared.message.Message.TheVariants as message

-- ---- the parts

-- type, length and xid (section 5.1, ofp_header)
abbrev pub header_of : List ℕ → ℕ × ℕ × ℕ
header_of bytes = (slice_index bytes 1, big_from 2 2 bytes, big_from 4 4 bytes)

-- the match of a FLOW_REMOVED (section 5.4.2) or a FLOW_MOD (section 5.3.3); no other type has one
abbrev pub match_part : List ℕ → Option (List ℕ)
match_part bytes = if slice_index bytes 1 == 11 || slice_index bytes 1 == 14 then Some (take 40 (drop 8 bytes)) else None

-- the actions of a PACKET_OUT (section 5.3.6) or a FLOW_MOD (section 5.3.3), one after the other
abbrev pub actions_part : List ℕ → List ℕ
actions_part bytes =
    if slice_index bytes 1 == 13 then out_actions bytes
    else if slice_index bytes 1 == 14 then drop 72 bytes
    else []

-- the type and the bytes of the action at the start of some bytes (section 5.2.4)
abbrev pub action_part : List ℕ → ℕ × List ℕ
action_part rest = (big_from 0 2 rest, take (told_length rest) rest)

-- actions that stand one after the other, each by its type and its bytes
abbrev pub action_parts : List ℕ → List (ℕ × List ℕ)
action_parts bytes = map action_part (action_starts 0 bytes)

-- the types whose bodies are kept as they are: VENDOR, PORT_MOD, STATS_REQUEST, STATS_REPLY, QUEUE_GET_CONFIG_REQUEST,
-- QUEUE_GET_CONFIG_REPLY (section 5.1)
abbrev pub is_undecoded : ℕ → Bool
is_undecoded kind = kind == 4 || (kind == 15 || (kind == 16 || (kind == 17 || (kind == 20 || kind == 21))))

-- the data of a message of a type: of an ERROR (section 5.4.4), an ECHO (5.5.2, 5.5.3), a PACKET_IN (5.4.1), a PACKET_OUT
-- (5.3.6), and the body of a type that is not decoded; of other types nothing
abbrev pub data_of_kind : ℕ → List ℕ → List ℕ
data_of_kind kind bytes =
    if kind == 1 then drop 12 bytes
    else if kind == 2 || kind == 3 then drop 8 bytes
    else if kind == 10 then drop 18 bytes
    else if kind == 13 then drop (big_from 14 2 bytes) (drop 16 bytes)
    else if is_undecoded kind then drop 8 bytes
    else []

-- the data of a message, by the type in its header
unfoldable pub data_part : List ℕ → List ℕ
data_part bytes = data_of_kind (slice_index bytes 1) bytes

-- ---- what a message has in these parts

-- the match that a message has
abbrev pub message_match : Message → Option Match
message_match (message.FlowRemoved xid matches cookie priority reason duration_sec duration_nsec idle_timeout packet_count byte_count) = Some matches
message_match (message.FlowMod xid mods) = Some mods.matches
message_match _ = None

-- the actions that a message has
abbrev pub message_actions : Message → List Action
message_actions (message.PacketOut xid buffer_id in_port actions_len actions content) = actions
message_actions (message.FlowMod xid mods) = mods.actions
message_actions _ = []

-- the data that a message has
abbrev pub message_data : Message → List ℕ
message_data (message.Error xid kind code content) = content
message_data (message.EchoRequest xid content) = content
message_data (message.EchoReply xid content) = content
message_data (message.PacketIn xid buffer_id total_len in_port reason content) = content
message_data (message.PacketOut xid buffer_id in_port actions_len actions content) = content
message_data (message.Other xid kind body) = body
message_data _ = []
