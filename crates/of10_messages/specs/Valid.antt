-- Which messages are valid: those that have an encoding which is read as them again.
use Rattle.std.specs.Prelude.{◌≡◌, ℕ, ◌<◌, ◌≤◌, ◌%◌, ◌^◌, ◌⊎◌, List, length, All}
use Rattle.of10_match.specs.Match.{IsValidMatch}
use Rattle.of10_messages.specs.declared.action.Action.{Action}
use Rattle.of10_messages.specs.declared.action.Action.TheVariants as action
use Rattle.of10_messages.specs.declared.message.Message.{Message}
use Rattle.of10_messages.specs.declared.message.Message.TheVariants as message
use Rattle.of10_messages.specs.declared.message.FlowMod.{FlowMod}
use Rattle.of10_messages.specs.declared.message.Features.{Features}
use Rattle.of10_messages.specs.declared.port.PortDesc.{PortDesc}
use Rattle.of10_messages.specs.Wire.{actions_bytes, canon_bytes, message_xid}

-- each number is a byte
abbrev pub AreBytes : List ℕ → Type 0
AreBytes bytes = All (λ b. b < 2 ^ 8) bytes

-- an action of another type than the ten that set or strip a field and Output: its length with its type and length is
-- a multiple of 8 that is not 0, and that of Enqueue is 16 (OpenFlow 1.0.0 section 5.2.4)
pub record IsOtherAction (kind : ℕ) (body : List ℕ) : Type 0 where
  pub fits : kind < 2 ^ 16
  pub other : 10 < kind
  pub bytes : AreBytes body
  pub padded : length body % 8 ≡ 4
  pub enqueue : kind ≡ 11 → length body ≡ 12

-- each field lies within its width (section 5.2.4)
abbrev pub IsValidAction : Action → Type 0
IsValidAction (action.Output port max_len) = (port < 2 ^ 16) × (max_len < 2 ^ 16)
IsValidAction (action.SetVlanVid vlan) = vlan < 2 ^ 16
IsValidAction (action.SetVlanPcp pcp) = pcp < 2 ^ 8
IsValidAction action.StripVlan = Unit {0}
IsValidAction (action.SetDlSrc address) = address < 2 ^ 48
IsValidAction (action.SetDlDst address) = address < 2 ^ 48
IsValidAction (action.SetNwSrc address) = address < 2 ^ 32
IsValidAction (action.SetNwDst address) = address < 2 ^ 32
IsValidAction (action.SetNwTos tos) = tos < 2 ^ 8
IsValidAction (action.SetTpSrc port) = port < 2 ^ 16
IsValidAction (action.SetTpDst port) = port < 2 ^ 16
IsValidAction (action.Other kind body) = IsOtherAction kind body

-- each field lies within its width (section 5.2.1)
pub record IsValidPort (p : PortDesc) : Type 0 where
  pub port_no : p.port_no < 2 ^ 16
  pub hw_addr : p.hw_addr < 2 ^ 48
  pub name_length : length p.name ≡ 16
  pub name : AreBytes p.name
  pub config : p.config < 2 ^ 32
  pub state : p.state < 2 ^ 32
  pub curr : p.curr < 2 ^ 32
  pub advertised : p.advertised < 2 ^ 32
  pub supported : p.supported < 2 ^ 32
  pub peer : p.peer < 2 ^ 32

-- each field lies within its width (section 5.3.1)
pub record IsValidFeatures (f : Features) : Type 0 where
  pub datapath_id : f.datapath_id < 2 ^ 64
  pub n_buffers : f.n_buffers < 2 ^ 32
  pub n_tables : f.n_tables < 2 ^ 8
  pub capabilities : f.capabilities < 2 ^ 32
  pub actions : f.actions < 2 ^ 32
  pub ports : All IsValidPort f.ports

-- each field lies within its width, and the match and the actions are valid (section 5.3.3)
pub record IsValidFlowMod (f : FlowMod) : Type 0 where
  pub matches : IsValidMatch f.matches
  pub cookie : f.cookie < 2 ^ 64
  pub command : f.command < 2 ^ 16
  pub idle_timeout : f.idle_timeout < 2 ^ 16
  pub hard_timeout : f.hard_timeout < 2 ^ 16
  pub priority : f.priority < 2 ^ 16
  pub buffer_id : f.buffer_id < 2 ^ 32
  pub out_port : f.out_port < 2 ^ 16
  pub flags : f.flags < 2 ^ 16
  pub actions : All IsValidAction f.actions

-- the types of messages whose bodies are kept as they are: VENDOR, PORT_MOD, STATS_REQUEST, STATS_REPLY,
-- QUEUE_GET_CONFIG_REQUEST, QUEUE_GET_CONFIG_REPLY (section 5.1)
abbrev pub IsOtherKind : ℕ → Type 0
IsOtherKind kind = (kind ≡ 4) ⊎ ((15 ≤ kind) × (kind ≤ 17)) ⊎ ((20 ≤ kind) × (kind ≤ 21))

-- The fields after the xid lie within their widths, matches and actions are valid, and an undecoded body has its type. A
-- PACKET_OUT tells the length of its actions.
abbrev pub HasValidBody : Message → Type 0
HasValidBody (message.Hello xid) = Unit {0}
HasValidBody (message.Error xid kind code content) = (kind < 2 ^ 16) × (code < 2 ^ 16) × AreBytes content
HasValidBody (message.EchoRequest xid content) = AreBytes content
HasValidBody (message.EchoReply xid content) = AreBytes content
HasValidBody (message.FeaturesRequest xid) = Unit {0}
HasValidBody (message.FeaturesReply xid features) = IsValidFeatures features
HasValidBody (message.GetConfigRequest xid) = Unit {0}
HasValidBody (message.GetConfigReply xid flags miss_send_len) = (flags < 2 ^ 16) × (miss_send_len < 2 ^ 16)
HasValidBody (message.SetConfig xid flags miss_send_len) = (flags < 2 ^ 16) × (miss_send_len < 2 ^ 16)
HasValidBody (message.PacketIn xid buffer_id total_len in_port reason content) =
    (buffer_id < 2 ^ 32) × (total_len < 2 ^ 16) × (in_port < 2 ^ 16) × (reason < 2 ^ 8) × AreBytes content
HasValidBody (message.FlowRemoved xid matches cookie priority reason duration_sec duration_nsec idle_timeout packet_count byte_count) =
    IsValidMatch matches × (cookie < 2 ^ 64) × (priority < 2 ^ 16) × (reason < 2 ^ 8) × (duration_sec < 2 ^ 32) × (duration_nsec < 2 ^ 32)
    × (idle_timeout < 2 ^ 16) × (packet_count < 2 ^ 64) × (byte_count < 2 ^ 64)
HasValidBody (message.PortStatus xid reason port) = (reason < 2 ^ 8) × IsValidPort port
HasValidBody (message.PacketOut xid buffer_id in_port actions_len actions content) =
    (buffer_id < 2 ^ 32) × (in_port < 2 ^ 16) × (actions_len ≡ length (actions_bytes actions)) × All IsValidAction actions × AreBytes content
HasValidBody (message.FlowMod xid mods) = IsValidFlowMod mods
HasValidBody (message.BarrierRequest xid) = Unit {0}
HasValidBody (message.BarrierReply xid) = Unit {0}
HasValidBody (message.Other xid kind body) = IsOtherKind kind × AreBytes body

-- a message is valid where its fields are, and where its length fits the header's field (section 5.1)
pub record IsValidMessage (m : Message) : Type 0 where
  pub xid : message_xid m < 2 ^ 32
  pub body : HasValidBody m
  pub length : length (canon_bytes m) < 2 ^ 16
