-- The mask of an item: what is left of it without the numbers in which two equal behaviours may differ. Which these are is this
-- project's own choice.
use Rattle.std.specs.Prelude.{ℕ, Bool, true, false, Option, Some, None}
use Rattle.message_pools.specs.declared.item.Item.{Item}
use Rattle.message_pools.specs.declared.item.Item.TheVariants as item
use Rattle.of10_messages.specs.Wire.{message_kind, with_xid}
use Rattle.of10_messages.specs.declared.message.FlowMod.{FlowMod}
use Rattle.of10_messages.specs.declared.message.Message.{Message}
use Rattle.of10_messages.specs.declared.message.Message.TheVariants as message

-- a FLOW_MOD whose cookie and buffer_id are 0
abbrev pub masked_mods : FlowMod → FlowMod
masked_mods mods = record mods { cookie = 0; buffer_id = 0 }

-- A message whose xid is 0, and in a PACKET_IN and a PACKET_OUT its buffer_id; in a FLOW_REMOVED its cookie, both parts of its
-- duration and both counts; in a FLOW_MOD its cookie and its buffer_id. The data of an ERROR stay as they are.
abbrev pub masked_message : Message → Message
masked_message (message.PacketIn xid buffer_id total_len in_port reason content) = message.PacketIn 0 0 total_len in_port reason content
masked_message (message.FlowRemoved xid matches cookie priority reason duration_sec duration_nsec idle_timeout packet_count byte_count) =
    message.FlowRemoved 0 matches 0 priority reason 0 0 idle_timeout 0 0
masked_message (message.PacketOut xid buffer_id in_port actions_len actions content) = message.PacketOut 0 0 in_port actions_len actions content
masked_message (message.FlowMod xid mods) = message.FlowMod 0 (masked_mods mods)
masked_message other = with_xid 0 other

-- the item with its message masked; what is no message stays as it is
abbrev pub masked : Item → Item
masked (item.Message message) = item.Message (masked_message message)
masked other = other

-- whether an item is a message
abbrev pub is_message : Item → Bool
is_message (item.Message message) = true
is_message other = false

-- the type of a message whose body is decoded
abbrev pub decoded_kind : Message → Option ℕ
decoded_kind (message.Other xid kind body) = None
decoded_kind other = Some (message_kind other)
