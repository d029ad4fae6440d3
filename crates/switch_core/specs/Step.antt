-- One step of a switch: what it becomes, and what it sends, for each message, packet and notice.
use Rattle.std.specs.Prelude.{ℕ, ◌+◌, ◌==◌, ◌<◌, ◌≤◌, ◌^◌, Bool, true, false, not, List, [], ◌∷◌, length, map, filter, filter_map, fold, take, Option, None, Result, Ok, Err, bit_and, if◌then◌else◌}
use Rattle.std.specs.List.{flat_map}
use Rattle.std.specs.Option.{option_map_or}
use Rattle.listed.specs.Lists.{changed_at}
use Rattle.of10_match.specs.declared.packet.Packet.{Packet}
use Rattle.of10_match.specs.Packet.{packet_of}
use Rattle.of10_messages.specs.Wire.{canon_bytes, message_xid}
use Rattle.of10_messages.specs.declared.action.Action.{Action}
use Rattle.of10_messages.specs.declared.message.FlowMod.{FlowMod}
use Rattle.of10_messages.specs.declared.message.Message.{Message}
use Rattle.of10_messages.specs.declared.message.Message.TheVariants as message
use Rattle.of10_messages.specs.declared.notice.Notice.{Notice}
use Rattle.of10_messages.specs.declared.notice.Notice.TheVariants.{Tick, Port, Join}
use Rattle.flow_table.specs.Best.{after_packet, best_entry, best_place}
use Rattle.flow_table.specs.Command.{After, command}
use Rattle.flow_table.specs.Entry.{counted}
use Rattle.flow_table.specs.Expiry.{gone, staying}
use Rattle.flow_table.specs.Outcome.{outcome}
use Rattle.flow_table.specs.declared.command.Command.{Command}
use Rattle.flow_table.specs.declared.command.Command.TheVariants.{Add, Modify, ModifyStrict, Delete, DeleteStrict}
use Rattle.flow_table.specs.declared.effect.TableNo.{TableNo}
use Rattle.flow_table.specs.declared.effect.TableNo.TheVariants.{Overlap, Full, OutOfMemory}
use Rattle.flow_table.specs.declared.entry.Entry.{Entry}
use Rattle.flow_table.specs.declared.outputs.Output.{Output}
use Rattle.flow_table.specs.declared.outputs.Target.{Target}
use Rattle.flow_table.specs.declared.outputs.Target.TheVariants as target
use Rattle.switch_core.specs.Leaving.{leave_all, nothing_sent}
use Rattle.switch_core.specs.Ports.{features, port_desc, with_port}
use Rattle.switch_core.specs.Refusal.{actions_refusal, flow_mod_refusal}
use Rattle.switch_core.specs.declared.leaving.Leaving.{Leaving}
use Rattle.switch_core.specs.declared.leaving.Leaving.TheVariants.{Told, Emitted}
use Rattle.switch_core.specs.declared.leaving.News.TheVariants.{Greeting, Arrival, Removal, PortChange}
use Rattle.switch_core.specs.declared.state.State.{State}

-- what a switch becomes, the messages to its controller, and the packets with their ports, in order
pub record Step : Type 0 where
  pub state : State
  pub up : List Message
  pub out : List (ℕ × Packet)

-- how many things a step sends
abbrev pub sent_count : Step → ℕ
sent_count step = length step.up + length step.out

-- ---- the forms of a step

-- nothing is sent
abbrev pub silent : State → Step
silent s = record { state = s; up = []; out = [] }

-- a request is answered by one message
abbrev pub answers : State → Message → Step
answers s answer = record { state = s; up = answer ∷ []; out = [] }

-- A request is refused by one ERROR, which has its xid and at most its first 64 bytes (OpenFlow 1.0.0 section 5.4.4). Nothing
-- changes.
abbrev pub refuses : State → Message → ℕ → ℕ → Step
refuses s request kind code = answers s (message.Error (message_xid request) kind code (take 64 (canon_bytes request)))

-- these things are sent, and the messages among them take the next xids
abbrev pub sends : State → List Leaving → Step
sends s leaving = let sent = leave_all (nothing_sent s.next_xid) leaving in
    record { state = record s { next_xid = sent.next_xid }; up = sent.up; out = sent.out }

-- ---- packets

-- what one output of a packet that came in by a port sends: the packet as it is then, out of a port or to the controller,
-- because of an action (reason 1)
abbrev pub sent_to : ℕ → Target → Packet → Leaving
sent_to in_port (target.Port port) packet = Emitted port packet
sent_to in_port target.Controller packet = Told (Arrival in_port 1 packet)

abbrev pub sent_by : ℕ → ℕ → Output → Leaving
sent_by in_port tag output = sent_to in_port output.target (record { header = output.header; tag = tag })

-- What is sent of a packet that comes in by a port: what the actions of its best entry send; without an entry the controller
-- is told (reason 0).
abbrev pub sent_of : State → ℕ → Packet → List Leaving
sent_of s in_port packet = option_map_or
    (λ entry. map (sent_by in_port packet.tag) (outcome s.ports in_port packet.header entry.actions))
    (best_entry s.table in_port packet.header)
    (Told (Arrival in_port 0 packet) ∷ [])

-- a packet that comes in by a port: its best entry is counted
abbrev pub received : State → ℕ → Packet → Step
received s in_port packet = sends (record s { table = after_packet s.table in_port packet.header s.clock }) (sent_of s in_port packet)

-- ---- PACKET_OUT, section 5.3.6

-- whether an output is one to TABLE (0xfff9)
abbrev pub is_to_table : Target → Bool
is_to_table (target.Port port) = port == 65529
is_to_table target.Controller = false

-- what an output of a PACKET_OUT sends: to TABLE goes the packet as it is then, as one that comes in by in_port
abbrev pub sent_out : State → ℕ → ℕ → Output → List Leaving
sent_out s in_port tag output =
    if is_to_table output.target then sent_of s in_port (record { header = output.header; tag = tag })
    else sent_by in_port tag output ∷ []

-- where the best entry stands of a packet that goes to the table; counting an entry changes no packet's best entry
abbrev pub hit_by : State → ℕ → Output → Option ℕ
hit_by s in_port output = if is_to_table output.target then best_place s.table in_port output.header else None

-- the entries at these places are counted
abbrev pub counted_at : ℕ → List Entry → List ℕ → List Entry
counted_at now entries places = fold (λ table place. changed_at place (counted now) table) entries places

-- the actions are applied to a packet that came in by in_port
abbrev pub applied : State → ℕ → List Action → Packet → Step
applied s in_port actions packet = let outputs = outcome s.ports in_port packet.header actions in
    sends (record s { table = counted_at s.clock s.table (filter_map (hit_by s in_port) outputs) }) (flat_map (sent_out s in_port packet.tag) outputs)

-- A PACKET_OUT is refused for an action, then for data that are no packet (BAD_REQUEST, BAD_LEN).
abbrev pub packet_out : State → Message → ℕ → List Action → List ℕ → Step
packet_out s request in_port actions content = option_map_or
    (λ refusal. refuses s request refusal.0 refusal.1)
    (actions_refusal true s.ports actions)
    (if length content == 36 then applied s in_port actions (packet_of content) else refuses s request 1 6)

-- ---- FLOW_MOD, section 5.3.3

-- the command of a number (ofp_flow_mod_command); a number above 4 is refused before
abbrev pub command_of : ℕ → Command
command_of number =
    if number == 0 then Add
    else if number == 1 then Modify
    else if number == 2 then ModifyStrict
    else if number == 3 then Delete
    else DeleteStrict

-- an entry whose controller wants to know when it goes (OFPFF_SEND_FLOW_REM, bit 0 of the flags)
abbrev pub wants_removal : Entry → Bool
wants_removal entry = not (bit_and entry.flags 1 == 0)

-- a command that takes entries out and adds none
abbrev pub is_delete : Command → Bool
is_delete Delete = true
is_delete DeleteStrict = true
is_delete _ = false

-- the controller is told of entries that a DELETE took out (reason 2); of the one that an ADD replaces it is not
abbrev pub removals : Command → ℕ → List Entry → List Leaving
removals how now removed = if is_delete how then map (λ entry. Told (Removal entry 2 now)) (filter wants_removal removed) else []

-- what the table's answer leads to: FLOW_MOD_FAILED with ALL_TABLES_FULL or OVERLAP where it refuses (want of memory is no
-- answer of its definition)
abbrev pub commanded : State → Message → Command → Result After TableNo → Step
commanded s request how (Ok after) = sends (record s { table = after.entries }) (removals how s.clock after.removed)
commanded s request how (Err Full) = refuses s request 3 0
commanded s request how (Err (Overlap with)) = refuses s request 3 1
commanded s request how (Err OutOfMemory) = silent s

-- a FLOW_MOD is refused, or the table is asked
abbrev pub flow_mod : State → Message → FlowMod → Step
flow_mod s request mods = option_map_or
    (λ refusal. refuses s request refusal.0 refusal.1)
    (flow_mod_refusal s.ports mods)
    (commanded s request (command_of mods.command) (command (command_of mods.command) s.table mods s.clock))

-- ---- the step of each message, section 5. An answer has the xid of its request.

abbrev pub handled : State → Message → Step
handled s (message.Hello xid) = silent s
handled s (message.Error xid kind code content) = silent s
handled s (message.EchoReply xid content) = silent s
handled s (message.EchoRequest xid content) = answers s (message.EchoReply xid content)
handled s (message.FeaturesRequest xid) = answers s (message.FeaturesReply xid (features s))
handled s (message.GetConfigRequest xid) = answers s (message.GetConfigReply xid s.flags s.miss_send_len)
handled s (message.SetConfig xid flags miss_send_len) = silent (record s { flags = flags; miss_send_len = miss_send_len })
handled s (message.BarrierRequest xid) = answers s (message.BarrierReply xid)
handled s (message.FlowMod xid mods) = flow_mod s (message.FlowMod xid mods) mods
handled s (message.PacketOut xid buffer_id in_port actions_len actions content) =
    packet_out s (message.PacketOut xid buffer_id in_port actions_len actions content) in_port actions content
-- a vendor's message (BAD_REQUEST, BAD_VENDOR), and all that a switch does not take (BAD_REQUEST, BAD_TYPE)
handled s (message.Other xid kind body) = refuses s (message.Other xid kind body) 1 (if kind == 4 then 3 else 1)
handled s request = refuses s request 1 1

-- ---- the step of each notice

-- what a notice asks for: seconds that the clock has room for, a port that the switch has
abbrev pub HasRoomFor : State → Notice → Type 0
HasRoomFor s (Tick seconds) = s.clock + seconds < 2 ^ 32
HasRoomFor s (Port port down) = (1 ≤ port) × (port ≤ s.ports)
HasRoomFor s (Join down) = Unit {0}

-- the time after a notice: seconds pass at a tick alone
abbrev pub time_after : State → Notice → ℕ
time_after s (Tick seconds) = s.clock + seconds
time_after s (Port port down) = s.clock
time_after s (Join down) = s.clock

-- Seconds pass: entries run out, and the controller is told of those that it wants to know of. A port goes down or comes up,
-- and the controller is told. A controller is there: the switch learns which ports are down, and greets it.
abbrev pub noticed : State → Notice → Step
noticed s (Tick seconds) = let now = s.clock + seconds in
    sends (record s { clock = now; table = staying now s.table })
    (map (λ late. Told (Removal late.0 late.1 now)) (filter (λ late. wants_removal late.0) (gone now s.table)))
noticed s (Port port down) = let after = record s { down = with_port s.down port down } in sends after (Told (PortChange (port_desc after port)) ∷ [])
noticed s (Join down) = sends (record s { down = down }) (Told Greeting ∷ [])
