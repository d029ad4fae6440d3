-- Which items are valid.
use Rattle.std.specs.Prelude.{ℕ, ◌<◌, ◌^◌}
use Rattle.of10_match.specs.Match.{IsValidMatch}
use Rattle.of10_match.specs.Packet.{IsValidPacket}
use Rattle.of10_messages.specs.Valid.{IsValidMessage}
use Rattle.message_pools.specs.declared.item.Item.{Item}
use Rattle.message_pools.specs.declared.item.Item.TheVariants as item

-- the message, the packet or the match is valid
abbrev pub IsValidItem : Item → Type 0
IsValidItem (item.Message message) = IsValidMessage message
IsValidItem item.Gone = Unit {0}
IsValidItem (item.Packet packet) = IsValidPacket packet
IsValidItem (item.Notice notice) = Unit {0}
IsValidItem (item.Policy deny) = IsValidMatch deny
