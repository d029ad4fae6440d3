-- What the relay sends, the controller of the runs that are timed.
use Rattle.std.specs.Prelude.{ℕ, ◌==◌, List, [], ◌∷◌, length, if◌then◌else◌}
use Rattle.of10_messages.specs.declared.action.Action.TheVariants.{Output}
use Rattle.of10_messages.specs.declared.message.Message.{Message}
use Rattle.of10_messages.specs.declared.message.Message.TheVariants as message

-- the PACKET_OUT that has a packet sent out of one port, by the record of the packet and the port by which it came in
abbrev pub passes_on : ℕ → ℕ → List ℕ → Message
passes_on port in_port packet = message.PacketOut 0 4294967295 in_port 8 (Output port 0 ∷ []) packet

-- a PACKET_IN that has the 36 bytes of a packet's record is answered so, and nothing else is answered
abbrev pub answers : ℕ → ℕ → Message → List (ℕ × Message)
answers port s (message.PacketIn xid buffer_id total_len in_port reason content) =
    if length content == 36 then (s, passes_on port in_port content) ∷ [] else []
answers port s other = []
