-- The lengths of actions and messages on the wire, as numbers (OpenFlow 1.0.0 sections 5.2.4 and 5).
use Rattle.std.specs.Prelude.{ℕ, ◌+◌, ◌*◌, List, length}
use Rattle.std.specs.List.{sum_by}
use Rattle.of10_messages.specs.declared.action.Action.{Action}
use Rattle.of10_messages.specs.declared.action.Action.TheVariants as action
use Rattle.of10_messages.specs.declared.message.Message.{Message}
use Rattle.of10_messages.specs.declared.message.Message.TheVariants as message

-- how many bytes an action has, with its type and its length: 16 for an Ethernet address, and 8 for the others of fixed length
abbrev pub action_len : Action → ℕ
action_len (action.Output port max_len) = 8
action_len (action.SetVlanVid vlan) = 8
action_len (action.SetVlanPcp pcp) = 8
action_len action.StripVlan = 8
action_len (action.SetDlSrc address) = 16
action_len (action.SetDlDst address) = 16
action_len (action.SetNwSrc address) = 8
action_len (action.SetNwDst address) = 8
action_len (action.SetNwTos tos) = 8
action_len (action.SetTpSrc port) = 8
action_len (action.SetTpDst port) = 8
action_len (action.Other kind body) = 4 + length body

-- how many bytes actions have together
abbrev pub actions_len : List Action → ℕ
actions_len actions = sum_by action_len actions

-- how many bytes a message has, by its type
abbrev pub message_len : Message → ℕ
message_len (message.Hello xid) = 8
message_len (message.Error xid kind code content) = 12 + length content
message_len (message.EchoRequest xid content) = 8 + length content
message_len (message.EchoReply xid content) = 8 + length content
message_len (message.FeaturesRequest xid) = 8
message_len (message.FeaturesReply xid features) = 32 + 48 * length features.ports
message_len (message.GetConfigRequest xid) = 8
message_len (message.GetConfigReply xid flags miss_send_len) = 12
message_len (message.SetConfig xid flags miss_send_len) = 12
message_len (message.PacketIn xid buffer_id total_len in_port reason content) = 18 + length content
message_len (message.FlowRemoved xid matches cookie priority reason duration_sec duration_nsec idle_timeout packet_count byte_count) = 88
message_len (message.PortStatus xid reason port) = 64
message_len (message.PacketOut xid buffer_id in_port said actions content) = 16 + actions_len actions + length content
message_len (message.FlowMod xid mods) = 72 + actions_len mods.actions
message_len (message.BarrierRequest xid) = 8
message_len (message.BarrierReply xid) = 8
message_len (message.Other xid kind body) = 8 + length body
