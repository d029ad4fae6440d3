-- The entries of a log as documents write them. Rules: 21 a text is not an even number of hexadecimal digits, 22 an item's bytes are not
-- of its pool's kind, 23 there is no such worker.
use Rattle.std.specs.Prelude.{ℕ, List, Option, Some, None, is_some, nat_le, Result, Ok, Err, Bool, true, codes, if◌then◌else◌, ⊤}
use Rattle.std.specs.Str.{bytes_eq}
use Rattle.hex.specs.Hex.{decode_of}
use Rattle.hex.specs.declared.error.FromHexError.{FromHexError}
use Rattle.serde_json.specs.Data.{Data}
use Rattle.message_pools.specs.declared.item.Item.{Item}
use Rattle.event_world.specs.declared.event.Event.{Event}
use Rattle.event_world.specs.declared.event.Event.TheVariants as event
use Rattle.event_machine.specs.declared.trace.End.{End}
use Rattle.event_machine.specs.declared.trace.End.TheVariants.{Quiet, Full}
use Rattle.event_machine.specs.declared.trace.Entry.{Entry}
use Rattle.doc_forms.specs.Forms.{counted, element, kind, kind_of, text}
use Rattle.doc_forms.specs.Reading.{Reading, ◌>>=◌, refused, require}
use Rattle.scenario_doc.specs.Packets.{bits}
use Rattle.scenario_doc.specs.Rules.{at}
use Rattle.log_doc.specs.Items.{item_in}
use Rattle.log_doc.specs.declared.entry.EntryKind.{EntryKind}
use Rattle.log_doc.specs.declared.entry.EntryKind.TheVariants as word
use Rattle.log_doc.specs.declared.items.ItemKind.{ItemKind}
use Rattle.log_doc.specs.declared.items.ItemKind.TheVariants as item_kind

-- the bytes that were spelled, or rule 21
abbrev pub spelled : Result (List ℕ) FromHexError → Reading (List ℕ)
spelled (Ok bytes) = Ok bytes
spelled (Err why) = refused 21

-- bytes in hexadecimal digits, upper or lower case
abbrev pub hex_of : Data → Reading (List ℕ)
hex_of value = do
  digits ← text value
  spelled (decode_of digits)

-- the item of a pool's kind that bytes in hexadecimal stand for, or none; that one must be there is asked later
abbrev pub item_of : ItemKind → Data → Reading (Option Item)
item_of pool value = do
  bytes ← hex_of value
  Ok (item_in pool bytes)

-- the words of events
abbrev pub entry_kind : List ℕ → Option EntryKind
entry_kind text =
    if bytes_eq text (codes "in") then Some word.In
    else if bytes_eq text (codes "ctl") then Some word.Ctl
    else if bytes_eq text (codes "pkt") then Some word.Pkt
    else if bytes_eq text (codes "note") then Some word.Note
    else if bytes_eq text (codes "app") then Some word.App
    else if bytes_eq text (codes "admin") then Some word.Admin
    else if bytes_eq text (codes "recv") then Some word.Recv
    else None

-- how many elements an entry has: the worker, the number, the word, what names the pool, the item's number and its bytes
abbrev pub entry_length : EntryKind → ℕ
entry_length word.In = 4
entry_length word.Pkt = 7
entry_length word.App = 7
entry_length other = 6

-- an event and its item, of a worker and a number
abbrev pub entry_with : ℕ → ℕ → Event → Option Item → Entry
entry_with worker count what taken = record { worker = worker; number = count; event = what; item = taken }

-- an entry by its word: an input by its position in the script, any other event by its pool and the number of its item
abbrev pub entry_by : EntryKind → ℕ → ℕ → Data → Reading Entry
entry_by word.In worker count value = do
  position ← element (bits 32) 3 value
  Ok (entry_with worker count (event.In position) None)
entry_by word.Ctl worker count value = do
  s ← element (bits 16) 3 value
  item ← element (bits 64) 4 value
  taken ← element (item_of item_kind.Message) 5 value
  Ok (entry_with worker count (event.Ctl s item) taken)
entry_by word.Pkt worker count value = do
  s ← element (bits 16) 3 value
  p ← element (bits 16) 4 value
  item ← element (bits 64) 5 value
  taken ← element (item_of item_kind.Packet) 6 value
  Ok (entry_with worker count (event.Pkt s p item) taken)
entry_by word.Note worker count value = do
  s ← element (bits 16) 3 value
  item ← element (bits 64) 4 value
  taken ← element (item_of item_kind.Notice) 5 value
  Ok (entry_with worker count (event.Note s item) taken)
entry_by word.App worker count value = do
  c ← element (bits 16) 3 value
  s ← element (bits 16) 4 value
  item ← element (bits 64) 5 value
  taken ← element (item_of item_kind.News) 6 value
  Ok (entry_with worker count (event.App c s item) taken)
entry_by word.Admin worker count value = do
  c ← element (bits 16) 3 value
  item ← element (bits 64) 4 value
  taken ← element (item_of item_kind.Policy) 5 value
  Ok (entry_with worker count (event.Admin c item) taken)
entry_by word.Recv worker count value = do
  h ← element (bits 16) 3 value
  item ← element (bits 64) 4 value
  taken ← element (item_of item_kind.Packet) 5 value
  Ok (entry_with worker count (event.Recv h item) taken)

abbrev pub entry_of : Data → Reading Entry
entry_of value = do
  word ← kind entry_kind 2 value
  all ← counted (entry_length word) value
  worker ← element (bits 32) 0 value
  count ← element (bits 64) 1 value
  entry_by word worker count value

-- how the run ended, by its word
abbrev pub end_word : List ℕ → Option End
end_word text = if bytes_eq text (codes "quiet") then Some Quiet else if bytes_eq text (codes "full") then Some Full else None

abbrev pub end_of : Data → Reading End
end_of = kind_of end_word

-- whether an entry has what its event took: an input takes nothing
abbrev pub has_item : Entry → Bool
has_item entry = has_taken entry.event (is_some entry.item) where
  has_taken : Event → Bool → Bool
  has_taken (event.In position) found = true
  has_taken internal found = found

-- at which place of an entry the bytes of its item stand
abbrev pub item_place : Event → ℕ
item_place (event.Pkt s p item) = 6
item_place (event.App c s item) = 6
item_place other = 5

-- an entry of a run with so many workers; worker 0 stands for the one that completes the run
abbrev pub entry_rules : ℕ → ℕ → Entry → Reading ⊤
entry_rules workers index entry = do
  worker ← at 0 (require 23 (nat_le entry.worker workers))
  at (item_place entry.event) (require 22 (has_item entry))
