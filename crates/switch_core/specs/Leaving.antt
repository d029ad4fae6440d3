-- What leaves a switch: messages of its own to the controller, each with the next xid, and packets out of its ports.
use Rattle.std.specs.Prelude.{ℕ, ◌+◌, ◌-◌, ◌<◌, ◌≤◌, ◌^◌, ◌==◌, List, [], ◌∷◌, ◌++◌, fold, All, if◌then◌else◌}
use Rattle.of10_match.specs.declared.packet.Packet.{Packet}
use Rattle.of10_match.specs.Packet.{IsValidPacket, record_of}
use Rattle.of10_messages.specs.Valid.{IsValidMessage, IsValidPort}
use Rattle.of10_messages.specs.declared.message.Message.{Message}
use Rattle.of10_messages.specs.declared.message.Message.TheVariants as message
use Rattle.flow_table.specs.Entry.{IsValidEntry}
use Rattle.switch_core.specs.declared.outs.Outs.{Outs}
use Rattle.switch_core.specs.declared.leaving.News.{News}
use Rattle.switch_core.specs.declared.leaving.News.TheVariants.{Greeting, Arrival, Removal, PortChange}
use Rattle.switch_core.specs.declared.leaving.Leaving.{Leaving}
use Rattle.switch_core.specs.declared.leaving.Leaving.TheVariants.{Told, Emitted}

-- The message by which the controller is told, with its xid: a HELLO; a PACKET_IN (OpenFlow 1.0.0 section 5.4.1), with the
-- whole packet and no buffer; a FLOW_REMOVED (section 5.4.2) at a time; a PORT_STATUS (section 5.4.3).
abbrev pub told : ℕ → News → Message
told xid Greeting = message.Hello xid
told xid (Arrival port reason packet) = message.PacketIn xid 4294967295 36 port reason (record_of packet)
told xid (Removal entry reason now) =
    message.FlowRemoved xid entry.matches entry.cookie entry.priority reason (now - entry.added) 0 entry.idle entry.packets entry.bytes
told xid (PortChange port) = message.PortStatus xid 2 port

-- the xid after one: it wraps
abbrev pub xid_after : ℕ → ℕ
xid_after xid = if xid == 4294967295 then 0 else xid + 1

-- what was sent so far, and the xid of the next message
pub record Sent : Type 0 where
  pub up : List Message
  pub out : List (ℕ × Packet)
  pub next_xid : ℕ

-- nothing yet
abbrev pub nothing_sent : ℕ → Sent
nothing_sent xid = record { up = []; out = []; next_xid = xid }

-- one thing more
abbrev pub leave : Sent → Leaving → Sent
leave sent (Told news) = record { up = sent.up ++ told sent.next_xid news ∷ []; out = sent.out; next_xid = xid_after sent.next_xid }
leave sent (Emitted port packet) = record { up = sent.up; out = sent.out ++ (port, packet) ∷ []; next_xid = sent.next_xid }

-- these things, in order
abbrev pub leave_all : Sent → List Leaving → Sent
leave_all sent leaving = fold leave sent leaving

-- the parts of what the controller is told are valid, and an entry is of no later time
abbrev pub IsValidNews : News → Type 0
IsValidNews Greeting = Unit {0}
IsValidNews (Arrival port reason packet) = (port < 2 ^ 16) × (reason < 2 ^ 8) × IsValidPacket packet
IsValidNews (Removal entry reason now) = IsValidEntry entry × (reason < 2 ^ 8) × (now < 2 ^ 32) × (entry.added ≤ now)
IsValidNews (PortChange port) = IsValidPort port

-- what leaves is valid
abbrev pub IsValidLeaving : Leaving → Type 0
IsValidLeaving (Told news) = IsValidNews news
IsValidLeaving (Emitted port packet) = IsValidPacket packet

-- what was sent is valid
pub record IsSent (sent : Sent) : Type 0 where
  pub up : All IsValidMessage sent.up
  pub out : All (λ emitted. IsValidPacket emitted.1) sent.out
  pub next_xid : sent.next_xid < 2 ^ 32

-- what a step answers is valid: each message, and each packet
pub record IsValidOuts (outs : Outs) : Type 0 where
  pub up : All IsValidMessage outs.up
  pub out : All (λ emitted. IsValidPacket emitted.1) outs.out

-- what was sent, and how many messages can be added with no need of memory
pub record Room : Type 0 where
  pub sent : Sent
  pub spare : ℕ
