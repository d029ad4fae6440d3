-- What is written for a log: the data that reads as it.
use Rattle.std.specs.Prelude.{◌≡◌, ℕ, ◌<◌, ◌≤◌, ◌^◌, List, [], ◌∷◌, ◌++◌, length, All, IfSome, Option, Some, None, Bool, codes, if◌then◌else◌}
use Rattle.byteorder.specs.Endian.{big_bytes}
use Rattle.hex.specs.Hex.{encode_lower}
use Rattle.serde_json.specs.Data.{Data, string, object, member, no_members}
use Rattle.serde_json.specs.Written.{compact_text}
use Rattle.of10_match.specs.Packet.{record_of}
use Rattle.of10_match.specs.Wire.{match_bytes}
use Rattle.of10_messages.specs.Wire.{canon_bytes}
use Rattle.of10_messages.specs.declared.notice.Notice.{Notice}
use Rattle.of10_messages.specs.declared.notice.Notice.TheVariants as notice
use Rattle.message_pools.specs.Item.{IsValidItem}
use Rattle.message_pools.specs.declared.item.Item.{Item}
use Rattle.message_pools.specs.declared.item.Item.TheVariants as item
use Rattle.event_world.specs.declared.event.Event.{Event}
use Rattle.event_world.specs.declared.event.Event.TheVariants as event
use Rattle.event_machine.specs.declared.trace.End.{End}
use Rattle.event_machine.specs.declared.trace.End.TheVariants.{Quiet, Full}
use Rattle.event_machine.specs.declared.trace.Entry.{Entry}
use Rattle.doc_forms.specs.Written.{list_data, number_data, parts_data}
use Rattle.scenario_doc.specs.Written.{draft_data}
use Rattle.scenario_doc.specs.WrittenScenario.{IsWritable, drafted}
use Rattle.log_doc.specs.declared.items.ItemKind.{ItemKind}
use Rattle.log_doc.specs.declared.items.ItemKind.TheVariants as kind
use Rattle.log_doc.specs.declared.log.Log.{Log}

-- ---- items

-- one byte that tells whether something is so
abbrev pub mark_byte : Bool → ℕ
mark_byte is_so = if is_so then 1 else 0

-- A notice: 0 and seconds in 4 bytes; 1, a port in 2 bytes, and 1 where it is down, else 0; or 2 and 8 bytes with a bit for each port that
-- is down.
abbrev pub notice_bytes : Notice → List ℕ
notice_bytes (notice.Tick seconds) = 0 ∷ big_bytes 4 seconds
notice_bytes (notice.Port port down) = 1 ∷ (big_bytes 2 port ++ mark_byte down ∷ [])
notice_bytes (notice.Join down) = 2 ∷ big_bytes 8 down

-- the numbers of a notice have as many bits as are written
abbrev pub IsNarrowNotice : Notice → Type 0
IsNarrowNotice (notice.Tick seconds) = seconds < 2 ^ 32
IsNarrowNotice (notice.Port port down) = port < 2 ^ 16
IsNarrowNotice (notice.Join down) = down < 2 ^ 64

-- an item: the one encoding of a message, no bytes where the channel is gone, the record of a packet, a notice, the bytes of a match
abbrev pub item_bytes : Item → List ℕ
item_bytes (item.Message message) = canon_bytes message
item_bytes item.Gone = []
item_bytes (item.Packet packet) = record_of packet
item_bytes (item.Notice one) = notice_bytes one
item_bytes (item.Policy deny) = match_bytes deny

-- the numbers of an item that is a notice
abbrev pub IsNarrowItem : Item → Type 0
IsNarrowItem (item.Notice one) = IsNarrowNotice one
IsNarrowItem other = Unit {0}

-- what an event took, and no bytes where it took nothing
abbrev pub taken_bytes : Option Item → List ℕ
taken_bytes None = []
taken_bytes (Some taken) = item_bytes taken

-- bytes in hexadecimal digits, in lower case
abbrev pub hex_data : List ℕ → Data
hex_data bytes = string (encode_lower bytes)

-- ---- entries

-- an item of a pool that is named by one number
abbrev pub one_name_data : ℕ → ℕ → List ℕ → ℕ → ℕ → Data → Data
one_name_data worker count word name item taken = parts_data
    (number_data worker ∷ number_data count ∷ string word ∷ number_data name ∷ number_data item ∷ taken ∷ [])

-- an item of a pool that is named by two numbers
abbrev pub two_names_data : ℕ → ℕ → List ℕ → ℕ → ℕ → ℕ → Data → Data
two_names_data worker count word name other item taken = parts_data
    (number_data worker ∷ number_data count ∷ string word ∷ number_data name ∷ number_data other ∷ number_data item ∷ taken ∷ [])

-- an event of a worker and a number, by its word: what names the pool, the item's number, and what was taken
abbrev pub event_data : ℕ → ℕ → Event → Data → Data
event_data worker count (event.In position) taken =
    parts_data (number_data worker ∷ number_data count ∷ string (codes "in") ∷ number_data position ∷ [])
event_data worker count (event.Ctl s item) taken = one_name_data worker count (codes "ctl") s item taken
event_data worker count (event.Pkt s p item) taken = two_names_data worker count (codes "pkt") s p item taken
event_data worker count (event.Note s item) taken = one_name_data worker count (codes "note") s item taken
event_data worker count (event.App c s item) taken = two_names_data worker count (codes "app") c s item taken
event_data worker count (event.Admin c item) taken = one_name_data worker count (codes "admin") c item taken
event_data worker count (event.Recv h item) taken = one_name_data worker count (codes "recv") h item taken

-- an entry
abbrev pub entry_data : Entry → Data
entry_data entry = event_data entry.worker entry.number entry.event (hex_data (taken_bytes entry.item))

-- ---- the whole

-- how a run ended, by its word
abbrev pub end_data : End → Data
end_data Quiet = string (codes "quiet")
end_data Full = string (codes "full")

-- a log: an object, its keys in byte order
abbrev pub log_data : Log → Data
log_data log = object
    (member (codes "end") (end_data log.trace.end)
    (member (codes "entries") (list_data entry_data log.trace.entries)
    (member (codes "scenario") (draft_data (drafted log.scenario))
    (member (codes "sts") (number_data 1)
    no_members))))

-- the text of a log
abbrev pub log_text : Log → List ℕ
log_text log = compact_text (log_data log)

-- ---- which logs can be written

-- the item that an entry has, if it has one, is valid
abbrev pub HasValidItem : Entry → Type 0
HasValidItem entry = IfSome entry.item IsValidItem

-- an item is of a pool's kind
abbrev pub IsItemOf : ItemKind → Item → Type 0
IsItemOf kind.Message (item.Message message) = Unit {0}
IsItemOf kind.Packet (item.Packet packet) = Unit {0}
IsItemOf kind.Notice (item.Notice one) = Unit {0}
IsItemOf kind.News (item.Message message) = Unit {0}
IsItemOf kind.News item.Gone = Unit {0}
IsItemOf kind.Policy (item.Policy deny) = Unit {0}
IsItemOf pool other = ⊥

-- an event took a valid item of its pool's kind
abbrev pub IsTaken : ItemKind → Option Item → Type 0
IsTaken pool None = ⊥
IsTaken pool (Some taken) = IsItemOf pool taken × IsValidItem taken

-- an input took nothing, any other event an item of its pool's kind
abbrev pub HasTaken : Event → Option Item → Type 0
HasTaken (event.In position) taken = taken ≡ None
HasTaken (event.Ctl s item) taken = IsTaken kind.Message taken
HasTaken (event.Pkt s p item) taken = IsTaken kind.Packet taken
HasTaken (event.Note s item) taken = IsTaken kind.Notice taken
HasTaken (event.App c s item) taken = IsTaken kind.News taken
HasTaken (event.Admin c item) taken = IsTaken kind.Policy taken
HasTaken (event.Recv h item) taken = IsTaken kind.Packet taken

-- a name has 16 bits, the number of an item 64, a position 32
abbrev pub IsNarrowEvent : Event → Type 0
IsNarrowEvent (event.In position) = position < 2 ^ 32
IsNarrowEvent (event.Ctl s item) = (s < 2 ^ 16) × (item < 2 ^ 64)
IsNarrowEvent (event.Pkt s p item) = (s < 2 ^ 16) × (p < 2 ^ 16) × (item < 2 ^ 64)
IsNarrowEvent (event.Note s item) = (s < 2 ^ 16) × (item < 2 ^ 64)
IsNarrowEvent (event.App c s item) = (c < 2 ^ 16) × (s < 2 ^ 16) × (item < 2 ^ 64)
IsNarrowEvent (event.Admin c item) = (c < 2 ^ 16) × (item < 2 ^ 64)
IsNarrowEvent (event.Recv h item) = (h < 2 ^ 16) × (item < 2 ^ 64)

-- An entry that can be written, of a run with so many workers: it has one of them, its numbers are in their ranges, and it has the item
-- that its event took.
pub record IsWritableEntry (workers : ℕ) (entry : Entry) : Type 0 where
  pub worker : entry.worker ≤ workers
  pub narrow : entry.worker < 2 ^ 32
  pub number : entry.number < 2 ^ 64
  pub names : IsNarrowEvent entry.event
  pub taken : HasTaken entry.event entry.item

-- A log that can be written: its scenario and each of its entries can, and it has at most 16,384 entries.
pub record IsWritableLog (log : Log) : Type 0 where
  pub scenario : IsWritable log.scenario
  pub few : length log.trace.entries ≤ 16384
  pub entries : All (IsWritableEntry log.scenario.setup.limits.workers) log.trace.entries
