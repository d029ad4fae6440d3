-- The one encoding of messages: the structs of OpenFlow 1.0.0 section 5, big-endian, with zeros for padding.
use Rattle.std.specs.Prelude.{ℕ, ◌+◌, List, [], ◌∷◌, ◌++◌, length, replicate}
use Rattle.std.specs.List.{flat_map}
use Rattle.byteorder.specs.Endian.{big_bytes}
use Rattle.of10_match.specs.Wire.{match_bytes}
use Rattle.of10_messages.specs.declared.action.Action.{Action}
use Rattle.of10_messages.specs.declared.action.Action.TheVariants as action
use Rattle.of10_messages.specs.declared.message.Message.{Message}
use Rattle.of10_messages.specs.declared.message.Message.TheVariants as message
use Rattle.of10_messages.specs.declared.message.FlowMod.{FlowMod}
use Rattle.of10_messages.specs.declared.message.Features.{Features}
use Rattle.of10_messages.specs.declared.port.PortDesc.{PortDesc}

-- ---- actions, section 5.2.4

-- the type of an action (ofp_action_type)
abbrev pub action_kind : Action → ℕ
action_kind (action.Output port max_len) = 0
action_kind (action.SetVlanVid vlan) = 1
action_kind (action.SetVlanPcp pcp) = 2
action_kind action.StripVlan = 3
action_kind (action.SetDlSrc address) = 4
action_kind (action.SetDlDst address) = 5
action_kind (action.SetNwSrc address) = 6
action_kind (action.SetNwDst address) = 7
action_kind (action.SetNwTos tos) = 8
action_kind (action.SetTpSrc port) = 9
action_kind (action.SetTpDst port) = 10
action_kind (action.Other kind body) = kind

-- what follows the type and the length of an action
abbrev pub action_body : Action → List ℕ
action_body (action.Output port max_len) = big_bytes 2 port ++ big_bytes 2 max_len
action_body (action.SetVlanVid vlan) = big_bytes 2 vlan ++ replicate 2 0
action_body (action.SetVlanPcp pcp) = pcp ∷ replicate 3 0
action_body action.StripVlan = replicate 4 0
action_body (action.SetDlSrc address) = big_bytes 6 address ++ replicate 6 0
action_body (action.SetDlDst address) = big_bytes 6 address ++ replicate 6 0
action_body (action.SetNwSrc address) = big_bytes 4 address
action_body (action.SetNwDst address) = big_bytes 4 address
action_body (action.SetNwTos tos) = tos ∷ replicate 3 0
action_body (action.SetTpSrc port) = big_bytes 2 port ++ replicate 2 0
action_body (action.SetTpDst port) = big_bytes 2 port ++ replicate 2 0
action_body (action.Other kind body) = body

-- an action (ofp_action_header): its type, its length with these four bytes, and its body
unfoldable pub action_bytes : Action → List ℕ
action_bytes a = big_bytes 2 (action_kind a) ++ (big_bytes 2 (4 + length (action_body a)) ++ action_body a)

-- actions, one after the other
abbrev pub actions_bytes : List Action → List ℕ
actions_bytes actions = flat_map action_bytes actions

-- ---- ports, section 5.2.1

-- the number and the address of a port
unfoldable pub port_head : PortDesc → List ℕ
port_head p = big_bytes 2 p.port_no ++ big_bytes 6 p.hw_addr

-- what follows its name
unfoldable pub port_tail : PortDesc → List ℕ
port_tail p =
    big_bytes 4 p.config
    ++ (big_bytes 4 p.state
    ++ (big_bytes 4 p.curr
    ++ (big_bytes 4 p.advertised
    ++ (big_bytes 4 p.supported
    ++ big_bytes 4 p.peer))))

-- a port (ofp_phy_port)
unfoldable pub port_bytes : PortDesc → List ℕ
port_bytes p = port_head p ++ (p.name ++ port_tail p)

-- ---- the parts of long messages after the header

-- section 5.3.1 (ofp_switch_features), up to the ports
unfoldable pub features_fields : Features → List ℕ
features_fields f =
    big_bytes 8 f.datapath_id
    ++ (big_bytes 4 f.n_buffers
    ++ (f.n_tables
    ∷ (replicate 3 0
    ++ (big_bytes 4 f.capabilities
    ++ big_bytes 4 f.actions))))

-- section 5.3.1
unfoldable pub features_bytes : Features → List ℕ
features_bytes f = features_fields f ++ flat_map port_bytes f.ports

-- section 5.3.3 (ofp_flow_mod), from the match up to the actions
unfoldable pub flow_mod_fields : FlowMod → List ℕ
flow_mod_fields f =
    big_bytes 8 f.cookie
    ++ (big_bytes 2 f.command
    ++ (big_bytes 2 f.idle_timeout
    ++ (big_bytes 2 f.hard_timeout
    ++ (big_bytes 2 f.priority
    ++ (big_bytes 4 f.buffer_id
    ++ (big_bytes 2 f.out_port
    ++ big_bytes 2 f.flags))))))

-- section 5.3.3
unfoldable pub flow_mod_bytes : FlowMod → List ℕ
flow_mod_bytes f = match_bytes f.matches ++ (flow_mod_fields f ++ actions_bytes f.actions)

-- section 5.4.2 (ofp_flow_removed), after the match
unfoldable pub removal_fields : ℕ → ℕ → ℕ → ℕ → ℕ → ℕ → ℕ → ℕ → List ℕ
removal_fields cookie priority reason duration_sec duration_nsec idle_timeout packet_count byte_count =
    big_bytes 8 cookie
    ++ (big_bytes 2 priority
    ++ (reason
    ∷ (0
    ∷ (big_bytes 4 duration_sec
    ++ (big_bytes 4 duration_nsec
    ++ (big_bytes 2 idle_timeout
    ++ (replicate 2 0
    ++ (big_bytes 8 packet_count
    ++ big_bytes 8 byte_count))))))))

-- ---- messages

-- the type of a message (section 5.1, ofp_type)
abbrev pub message_kind : Message → ℕ
message_kind (message.Hello xid) = 0
message_kind (message.Error xid kind code content) = 1
message_kind (message.EchoRequest xid content) = 2
message_kind (message.EchoReply xid content) = 3
message_kind (message.FeaturesRequest xid) = 5
message_kind (message.FeaturesReply xid features) = 6
message_kind (message.GetConfigRequest xid) = 7
message_kind (message.GetConfigReply xid flags miss_send_len) = 8
message_kind (message.SetConfig xid flags miss_send_len) = 9
message_kind (message.PacketIn xid buffer_id total_len in_port reason content) = 10
message_kind (message.FlowRemoved xid matches cookie priority reason duration_sec duration_nsec idle_timeout packet_count byte_count) = 11
message_kind (message.PortStatus xid reason port) = 12
message_kind (message.PacketOut xid buffer_id in_port actions_len actions content) = 13
message_kind (message.FlowMod xid mods) = 14
message_kind (message.BarrierRequest xid) = 18
message_kind (message.BarrierReply xid) = 19
message_kind (message.Other xid kind body) = kind

-- the number by which an answer names its request
abbrev pub message_xid : Message → ℕ
message_xid (message.Hello xid) = xid
message_xid (message.Error xid kind code content) = xid
message_xid (message.EchoRequest xid content) = xid
message_xid (message.EchoReply xid content) = xid
message_xid (message.FeaturesRequest xid) = xid
message_xid (message.FeaturesReply xid features) = xid
message_xid (message.GetConfigRequest xid) = xid
message_xid (message.GetConfigReply xid flags miss_send_len) = xid
message_xid (message.SetConfig xid flags miss_send_len) = xid
message_xid (message.PacketIn xid buffer_id total_len in_port reason content) = xid
message_xid (message.FlowRemoved xid matches cookie priority reason duration_sec duration_nsec idle_timeout packet_count byte_count) = xid
message_xid (message.PortStatus xid reason port) = xid
message_xid (message.PacketOut xid buffer_id in_port actions_len actions content) = xid
message_xid (message.FlowMod xid mods) = xid
message_xid (message.BarrierRequest xid) = xid
message_xid (message.BarrierReply xid) = xid
message_xid (message.Other xid kind body) = xid

-- the message with another xid
abbrev pub with_xid : ℕ → Message → Message
with_xid new (message.Hello xid) = message.Hello new
with_xid new (message.Error xid kind code content) = message.Error new kind code content
with_xid new (message.EchoRequest xid content) = message.EchoRequest new content
with_xid new (message.EchoReply xid content) = message.EchoReply new content
with_xid new (message.FeaturesRequest xid) = message.FeaturesRequest new
with_xid new (message.FeaturesReply xid features) = message.FeaturesReply new features
with_xid new (message.GetConfigRequest xid) = message.GetConfigRequest new
with_xid new (message.GetConfigReply xid flags miss_send_len) = message.GetConfigReply new flags miss_send_len
with_xid new (message.SetConfig xid flags miss_send_len) = message.SetConfig new flags miss_send_len
with_xid new (message.PacketIn xid buffer_id total_len in_port reason content) = message.PacketIn new buffer_id total_len in_port reason content
with_xid new (message.FlowRemoved xid matches cookie priority reason duration_sec duration_nsec idle_timeout packet_count byte_count) =
    message.FlowRemoved new matches cookie priority reason duration_sec duration_nsec idle_timeout packet_count byte_count
with_xid new (message.PortStatus xid reason port) = message.PortStatus new reason port
with_xid new (message.PacketOut xid buffer_id in_port actions_len actions content) = message.PacketOut new buffer_id in_port actions_len actions content
with_xid new (message.FlowMod xid mods) = message.FlowMod new mods
with_xid new (message.BarrierRequest xid) = message.BarrierRequest new
with_xid new (message.BarrierReply xid) = message.BarrierReply new
with_xid new (message.Other xid kind body) = message.Other new kind body

-- what follows the header: ofp_error_msg (5.4.4), ofp_switch_config (5.3.2), ofp_packet_in (5.4.1),
-- ofp_flow_removed (5.4.2), ofp_port_status (5.4.3), ofp_packet_out (5.3.6), and those above
abbrev pub body_bytes : Message → List ℕ
body_bytes (message.Hello xid) = []
body_bytes (message.Error xid kind code content) = big_bytes 2 kind ++ (big_bytes 2 code ++ content)
body_bytes (message.EchoRequest xid content) = content
body_bytes (message.EchoReply xid content) = content
body_bytes (message.FeaturesRequest xid) = []
body_bytes (message.FeaturesReply xid features) = features_bytes features
body_bytes (message.GetConfigRequest xid) = []
body_bytes (message.GetConfigReply xid flags miss_send_len) = big_bytes 2 flags ++ big_bytes 2 miss_send_len
body_bytes (message.SetConfig xid flags miss_send_len) = big_bytes 2 flags ++ big_bytes 2 miss_send_len
body_bytes (message.PacketIn xid buffer_id total_len in_port reason content) =
    big_bytes 4 buffer_id ++ (big_bytes 2 total_len ++ (big_bytes 2 in_port ++ (reason ∷ (0 ∷ content))))
body_bytes (message.FlowRemoved xid matches cookie priority reason duration_sec duration_nsec idle_timeout packet_count byte_count) =
    match_bytes matches ++ removal_fields cookie priority reason duration_sec duration_nsec idle_timeout packet_count byte_count
body_bytes (message.PortStatus xid reason port) = reason ∷ (replicate 7 0 ++ port_bytes port)
body_bytes (message.PacketOut xid buffer_id in_port actions_len actions content) =
    big_bytes 4 buffer_id ++ (big_bytes 2 in_port ++ (big_bytes 2 actions_len ++ (actions_bytes actions ++ content)))
body_bytes (message.FlowMod xid mods) = flow_mod_bytes mods
body_bytes (message.BarrierRequest xid) = []
body_bytes (message.BarrierReply xid) = []
body_bytes (message.Other xid kind body) = body

-- a message: its header (section 5.1, ofp_header), which is the version 1, the type, the length of the whole and
-- the xid; and what follows it
unfoldable pub canon_bytes : Message → List ℕ
canon_bytes m = 1 ∷ (message_kind m ∷ (big_bytes 2 (8 + length (body_bytes m)) ++ (big_bytes 4 (message_xid m) ++ body_bytes m)))
