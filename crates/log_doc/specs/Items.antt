-- The bytes of items, by the kind of their pool.
use Rattle.std.specs.Prelude.{ℕ, ◌==◌, ◌&&◌, List, length, is_none, Option, Some, None, nat_le, slice_index, if◌then◌else◌}
use Rattle.byteorder.specs.Endian.{big_from}
use Rattle.of10_match.specs.Packet.{packet_of}
use Rattle.of10_match.specs.Wire.{match_of}
use Rattle.of10_messages.specs.Reading.{message_of}
use Rattle.of10_messages.specs.Refusal.{refusal_of}
use Rattle.of10_messages.specs.declared.notice.Notice.TheVariants as notice
use Rattle.message_pools.specs.declared.item.Item.{Item}
use Rattle.message_pools.specs.declared.item.Item.TheVariants as item
use Rattle.log_doc.specs.declared.items.ItemKind.{ItemKind}
use Rattle.log_doc.specs.declared.items.ItemKind.TheVariants as kind

-- a message: bytes that are not refused
abbrev pub message_in : List ℕ → Option Item
message_in bytes = if is_none (refusal_of bytes) then Some (item.Message (message_of bytes)) else None

-- a packet: the 36 bytes of a record
abbrev pub packet_in : List ℕ → Option Item
packet_in bytes = if length bytes == 36 then Some (item.Packet (packet_of bytes)) else None

-- a policy: the 40 bytes of a match (OpenFlow 1.0.0 section 5.2.3)
abbrev pub policy_in : List ℕ → Option Item
policy_in bytes = if length bytes == 40 then Some (item.Policy (match_of bytes)) else None

-- A notice: 0 and seconds in 4 bytes; 1, a port in 2 bytes, and 1 where it is down, else 0; or 2 and 8 bytes with a bit for each port that
-- is down.
abbrev pub notice_in : List ℕ → Option Item
notice_in bytes =
    if length bytes == 5 && slice_index bytes 0 == 0 then Some (item.Notice (notice.Tick (big_from 1 4 bytes)))
    else if length bytes == 4 && slice_index bytes 0 == 1 && nat_le (slice_index bytes 3) 1
    then Some (item.Notice (notice.Port (big_from 1 2 bytes) (slice_index bytes 3 == 1)))
    else if length bytes == 9 && slice_index bytes 0 == 2 then Some (item.Notice (notice.Join (big_from 1 8 bytes)))
    else None

-- what a controller hears of a switch: a message, or no bytes where the channel is gone
abbrev pub news_in : List ℕ → Option Item
news_in bytes = if length bytes == 0 then Some item.Gone else message_in bytes

-- the item of a pool, if the bytes are of its kind
abbrev pub item_in : ItemKind → List ℕ → Option Item
item_in kind.Message bytes = message_in bytes
item_in kind.Packet bytes = packet_in bytes
item_in kind.Notice bytes = notice_in bytes
item_in kind.News bytes = news_in bytes
item_in kind.Policy bytes = policy_in bytes
