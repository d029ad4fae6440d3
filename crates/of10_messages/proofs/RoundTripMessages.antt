-- What is written of messages is read back.
use Rattle.std.proofs.Common.{◌≡◌}
use Rattle.of10_match.specs.Match.{IsValidMatch}
use Rattle.of10_match.specs.Wire.{match_bytes, match_of}
use Rattle.of10_match.specs.declared.matches.Match.{Match}
use Rattle.of10_messages.proofs.RoundTripBodies.{BodyReads, barrier_reply_reads, barrier_request_reads, config_reply_reads, config_request_reads, echo_reply_reads, echo_request_reads, error_reads, features_request_reads, hello_reads, other_reads, packet_in_reads, set_config_reads}
use Rattle.of10_messages.proofs.RoundTripLong.{features_reply_reads, flow_mod_reads, flow_removed_reads, packet_out_reads, port_status_reads}
use Rattle.of10_messages.specs.Valid.{IsValidMessage}
use Rattle.of10_messages.specs.declared.message.Message.{Message}
use Rattle.of10_messages.specs.declared.message.Message.TheVariants as message

-- every message is read back
pub message_reads : ((m : Match) → IsValidMatch m → match_of (match_bytes m) ≡ m) → (m : Message) → IsValidMessage m → BodyReads m
message_reads back (message.Hello xid) v = hello_reads xid
message_reads back (message.Error xid kind code content) v = error_reads xid kind code content v.body.0 v.body.1
message_reads back (message.EchoRequest xid content) v = echo_request_reads xid content
message_reads back (message.EchoReply xid content) v = echo_reply_reads xid content
message_reads back (message.FeaturesRequest xid) v = features_request_reads xid
message_reads back (message.FeaturesReply xid features) v = features_reply_reads xid features v.body
message_reads back (message.GetConfigRequest xid) v = config_request_reads xid
message_reads back (message.GetConfigReply xid flags miss_send_len) v = config_reply_reads xid flags miss_send_len v.body.0 v.body.1
message_reads back (message.SetConfig xid flags miss_send_len) v = set_config_reads xid flags miss_send_len v.body.0 v.body.1
message_reads back (message.PacketIn xid buffer_id total_len in_port reason content) v =
    packet_in_reads xid buffer_id total_len in_port reason content v.body.0 v.body.1 v.body.2
message_reads back (message.FlowRemoved xid matches cookie priority reason duration_sec duration_nsec idle_timeout packet_count byte_count) v =
    flow_removed_reads back xid matches cookie priority reason duration_sec duration_nsec idle_timeout packet_count byte_count
    v.body.0 v.body.1 v.body.2 v.body.4 v.body.5 v.body.6 v.body.7 v.body.8
message_reads back (message.PortStatus xid reason port) v = port_status_reads xid reason port v.body.1
message_reads back (message.PacketOut xid buffer_id in_port actions_len actions content) v =
    packet_out_reads xid buffer_id in_port actions_len actions content v.body.0 v.body.1 v.body.2 v.body.3 v.length
message_reads back (message.FlowMod xid mods) v = flow_mod_reads back xid mods v.body v.length
message_reads back (message.BarrierRequest xid) v = barrier_request_reads xid
message_reads back (message.BarrierReply xid) v = barrier_reply_reads xid
message_reads back (message.Other xid kind body) v = other_reads xid kind body v.body.0
