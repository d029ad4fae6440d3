-- What applications read of a packet that came up, and what they send. Their messages have xid 0 and their entries cookie 0, until
-- a host gives both.
use Rattle.std.specs.Prelude.{ℕ, ◌==◌, List, [], ◌∷◌, length, Option, Some, None, if◌then◌else◌}
use Rattle.of10_match.specs.Packet.{packet_of}
use Rattle.of10_match.specs.declared.header.Header.{Header}
use Rattle.of10_match.specs.declared.matches.Match.{Match}
use Rattle.of10_messages.specs.declared.action.Action.{Action}
use Rattle.of10_messages.specs.declared.action.Action.TheVariants.{Output}
use Rattle.of10_messages.specs.declared.message.Message.{Message}
use Rattle.of10_messages.specs.declared.message.Message.TheVariants.{PacketIn, PacketOut, FlowMod}

-- a packet that a switch sent up: the port by which it came in, and its bytes
pub record Sighting : Type 0 where
  pub in_port : ℕ
  pub content : List ℕ

-- the packet of a PACKET_IN, where its data are the 36 bytes of a record
abbrev pub seen_in : Message → Option Sighting
seen_in (PacketIn xid buffer_id total_len in_port reason content) =
    if length content == 36 then Some (record { in_port = in_port; content = content }) else None
seen_in other = None

-- its header
abbrev pub header_of : Sighting → Header
header_of seen = (packet_of seen.content).header

-- the match that takes packets with a header by a port, and nothing else (OpenFlow 1.0.0 section 5.2.3, ofp_match)
abbrev pub exact_match : ℕ → Header → Match
exact_match in_port header = record {
  in_port = Some in_port;
  dl_src = Some header.dl_src;
  dl_dst = Some header.dl_dst;
  dl_vlan = Some header.dl_vlan;
  dl_vlan_pcp = Some header.dl_vlan_pcp;
  dl_type = Some header.dl_type;
  nw_tos = Some header.nw_tos;
  nw_proto = Some header.nw_proto;
  nw_src = Some (header.nw_src, 32);
  nw_dst = Some (header.nw_dst, 32);
  tp_src = Some header.tp_src;
  tp_dst = Some header.tp_dst;
}

-- the actions that send a packet out of a port
abbrev pub out_of : ℕ → List Action
out_of port = Output port 0 ∷ []

-- an ADD (section 5.3.3): the entry may run out where it is idle for so many seconds, or never where these are 0; no packet that the
-- switch keeps (buffer 0xffffffff), no port (NONE, 0xffff), no flags
abbrev pub added : Match → ℕ → ℕ → List Action → Message
added matches priority idle actions = FlowMod 0 (record {
  matches = matches;
  cookie = 0;
  command = 0;
  idle_timeout = idle;
  hard_timeout = 0;
  priority = priority;
  buffer_id = 4294967295;
  out_port = 65535;
  flags = 0;
  actions = actions;
})

-- a PACKET_OUT (section 5.3.6) that sends the packet on out of a port
abbrev pub sent_on : Sighting → ℕ → Message
sent_on seen port = PacketOut 0 4294967295 seen.in_port 8 (out_of port) seen.content
