-- The message that bytes are read as: the fields at their places in the structs of OpenFlow 1.0.0 section 5. Padding and the
-- body of a HELLO are dropped, and of a match the values and bits that are not compared.
use Rattle.std.specs.Prelude.{◌≡◌, ℕ, zero, suc, ◌-◌, ◌/◌, ◌==◌, List, [], ◌∷◌, length, map, take, drop, slice_index, None, if◌then◌else◌}
use Rattle.byteorder.specs.Endian.{big_from}
use Rattle.of10_match.specs.Wire.{match_of}
use Rattle.of10_messages.specs.Refusal.{action_starts, out_actions, refusal_of, told_length}
use Rattle.of10_messages.specs.declared.action.Action.{Action}
use Rattle.of10_messages.specs.declared.action.Action.TheVariants as action
use Rattle.of10_messages.specs.declared.message.Message.{Message}
use Rattle.of10_messages.specs.declared.message.Message.TheVariants as message
use Rattle.of10_messages.specs.declared.message.FlowMod.{FlowMod}
use Rattle.of10_messages.specs.declared.message.Features.{Features}
use Rattle.of10_messages.specs.declared.port.PortDesc.{PortDesc}

-- the action of a type, whose bytes begin with its type and length (section 5.2.4)
abbrev pub action_of_kind : ℕ → List ℕ → Action
action_of_kind kind bytes =
    if kind == 0 then action.Output (big_from 4 2 bytes) (big_from 6 2 bytes)
    else if kind == 1 then action.SetVlanVid (big_from 4 2 bytes)
    else if kind == 2 then action.SetVlanPcp (slice_index bytes 4)
    else if kind == 3 then action.StripVlan
    else if kind == 4 then action.SetDlSrc (big_from 4 6 bytes)
    else if kind == 5 then action.SetDlDst (big_from 4 6 bytes)
    else if kind == 6 then action.SetNwSrc (big_from 4 4 bytes)
    else if kind == 7 then action.SetNwDst (big_from 4 4 bytes)
    else if kind == 8 then action.SetNwTos (slice_index bytes 4)
    else if kind == 9 then action.SetTpSrc (big_from 4 2 bytes)
    else if kind == 10 then action.SetTpDst (big_from 4 2 bytes)
    else action.Other kind (drop 4 (take (told_length bytes) bytes))

-- the action at the start of some bytes
unfoldable pub action_of : List ℕ → Action
action_of bytes = action_of_kind (big_from 0 2 bytes) bytes

-- the actions that stand one after the other
abbrev pub actions_of : List ℕ → List Action
actions_of bytes = map action_of (action_starts 0 bytes)

-- the port at the start of some bytes (section 5.2.1, ofp_phy_port)
unfoldable pub port_of : List ℕ → PortDesc
port_of bytes = record {
  port_no = big_from 0 2 bytes;
  hw_addr = big_from 2 6 bytes;
  name = take 16 (drop 8 bytes);
  config = big_from 24 4 bytes;
  state = big_from 28 4 bytes;
  curr = big_from 32 4 bytes;
  advertised = big_from 36 4 bytes;
  supported = big_from 40 4 bytes;
  peer = big_from 44 4 bytes;
}

-- so many ports of 48 bytes, one after the other
abbrev pub ports_of : ℕ → List ℕ → List PortDesc
ports_of zero bytes = []
ports_of (suc n) bytes = port_of bytes ∷ ports_of n (drop 48 bytes)

-- what a FEATURES_REPLY says (section 5.3.1, ofp_switch_features)
unfoldable pub features_of : List ℕ → Features
features_of bytes = record {
  datapath_id = big_from 8 8 bytes;
  n_buffers = big_from 16 4 bytes;
  n_tables = slice_index bytes 20;
  capabilities = big_from 24 4 bytes;
  actions = big_from 28 4 bytes;
  ports = ports_of ((length bytes - 32) / 48) (drop 32 bytes);
}

-- what a FLOW_MOD says (section 5.3.3, ofp_flow_mod)
unfoldable pub flow_mod_of : List ℕ → FlowMod
flow_mod_of bytes = record {
  matches = match_of (take 40 (drop 8 bytes));
  cookie = big_from 48 8 bytes;
  command = big_from 56 2 bytes;
  idle_timeout = big_from 58 2 bytes;
  hard_timeout = big_from 60 2 bytes;
  priority = big_from 62 2 bytes;
  buffer_id = big_from 64 4 bytes;
  out_port = big_from 68 2 bytes;
  flags = big_from 70 2 bytes;
  actions = actions_of (drop 72 bytes);
}

-- a message of a type (section 5.1, ofp_type): ofp_error_msg (5.4.4), ofp_switch_config (5.3.2), ofp_packet_in (5.4.1),
-- ofp_flow_removed (5.4.2), ofp_port_status (5.4.3), ofp_packet_out (5.3.6), and those above
abbrev pub message_of_kind : ℕ → ℕ → List ℕ → Message
message_of_kind kind xid bytes =
    if kind == 0 then message.Hello xid
    else if kind == 1 then message.Error xid (big_from 8 2 bytes) (big_from 10 2 bytes) (drop 12 bytes)
    else if kind == 2 then message.EchoRequest xid (drop 8 bytes)
    else if kind == 3 then message.EchoReply xid (drop 8 bytes)
    else if kind == 5 then message.FeaturesRequest xid
    else if kind == 6 then message.FeaturesReply xid (features_of bytes)
    else if kind == 7 then message.GetConfigRequest xid
    else if kind == 8 then message.GetConfigReply xid (big_from 8 2 bytes) (big_from 10 2 bytes)
    else if kind == 9 then message.SetConfig xid (big_from 8 2 bytes) (big_from 10 2 bytes)
    else if kind == 10 then message.PacketIn xid (big_from 8 4 bytes) (big_from 12 2 bytes) (big_from 14 2 bytes) (slice_index bytes 16) (drop 18 bytes)
    else if kind == 11 then message.FlowRemoved xid (match_of (take 40 (drop 8 bytes))) (big_from 48 8 bytes) (big_from 56 2 bytes) (slice_index bytes 58)
    (big_from 60 4 bytes) (big_from 64 4 bytes) (big_from 68 2 bytes) (big_from 72 8 bytes) (big_from 80 8 bytes)
    else if kind == 12 then message.PortStatus xid (slice_index bytes 8) (port_of (drop 16 bytes))
    else if kind == 13 then message.PacketOut xid (big_from 8 4 bytes) (big_from 12 2 bytes) (big_from 14 2 bytes)
    (actions_of (out_actions bytes)) (drop (big_from 14 2 bytes) (drop 16 bytes))
    else if kind == 14 then message.FlowMod xid (flow_mod_of bytes)
    else if kind == 18 then message.BarrierRequest xid
    else if kind == 19 then message.BarrierReply xid
    else message.Other xid kind (drop 8 bytes)

-- the message of bytes, by the type and the xid of their header (section 5.1, ofp_header)
unfoldable pub message_of : List ℕ → Message
message_of bytes = message_of_kind (slice_index bytes 1) (big_from 4 4 bytes) bytes

-- bytes are read as a message: they are not refused, and they hold its fields
pub record Reads (bytes : List ℕ) (m : Message) : Type 0 where
  pub accepted : refusal_of bytes ≡ None
  pub fields : m ≡ message_of bytes
