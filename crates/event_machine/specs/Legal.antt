-- Which histories are legal, and what is wrong with the others.
use Rattle.std.specs.Prelude.{◌≡◌, ◌≢◌, ℕ, ◌<◌, ◌==◌, List, length, map, take, slice_get, count_by, Option, Some, None, ⊤}
use Rattle.controller_api.specs.Reaction.{Reaction}
use Rattle.controller_api.specs.declared.item.UpItem.{UpItem}
use Rattle.machine_setup.specs.declared.setup.Setup.{Setup}
use Rattle.message_pools.specs.declared.item.Item.{Item}
use Rattle.pool_book.specs.Pools.{IsQuiet}
use Rattle.event_world.specs.Answers.{next_line}
use Rattle.event_world.specs.Events.{number_of}
use Rattle.event_world.specs.Mail.{Shared}
use Rattle.event_world.specs.World.{Situation, after_all, head_for}
use Rattle.event_world.specs.declared.event.Event.{Event}
use Rattle.event_world.specs.declared.event.Event.TheVariants.{In}
use Rattle.event_machine.specs.declared.legal.LogNo.{LogNo}
use Rattle.event_machine.specs.declared.legal.LogNo.TheVariants.{NotLegal, WorkerOrder, EndWrong, OutOfMemory}
use Rattle.event_machine.specs.declared.trace.End.{End}
use Rattle.event_machine.specs.declared.trace.End.TheVariants.{Quiet, Full}
use Rattle.event_machine.specs.declared.trace.Entry.{Entry}
use Rattle.event_machine.specs.declared.trace.Trace.{Trace}

-- ---- one entry

-- the item is the first one of the pool that the event takes from, and has the number that the event names
abbrev pub IsHead : Shared → Event → Option Item → Type 0
IsHead shared event item = (first : Item) × (item ≡ Some first) × (head_for shared event ≡ Some (number_of event, first))

-- an internal event takes the first item of its pool; an input takes none
abbrev pub TakesHead : Shared → Event → Option Item → Type 0
TakesHead shared (In position) item = ⊤
TakesHead shared internal item = IsHead shared internal item

-- how many entries before the place name the worker
abbrev pub earlier_of : List Entry → ℕ → ℕ → ℕ
earlier_of entries at worker = count_by (λ entry. entry.worker == worker) (take at entries)

-- the entry has its worker's next number, from 0
abbrev pub IsNextOfWorker : List Entry → ℕ → Entry → Type 0
IsNextOfWorker entries at entry = entry.number ≡ earlier_of entries at entry.worker

module _ {C : Type 0} where
  -- What an entry needs by its event. An input is the script's next line, which has not to wait, and has no item. An internal
  -- event has the first item of its pool.
  abbrev pub IsLegalEvent : Setup C → Situation C → Event → Option Item → Type 0
  IsLegalEvent setup world (In position) item = (next_line setup.script world.shared ≡ Some (In position)) × (item ≡ None)
  IsLegalEvent setup world internal item = IsHead world.shared internal item

  -- the entry may stand at the place, in the world to which the earlier ones lead
  abbrev pub IsLegalIn : Setup C → Situation C → ℕ → Entry → Type 0
  IsLegalIn setup world at entry = (at < setup.limits.max_events) × IsLegalEvent setup world entry.event entry.item

  -- What is wrong with the entry at a place, in the world to which the earlier ones lead, where its worker's next number is the
  -- one wanted: it is not legal, or else it has another number.
  abbrev pub IsWrongEntry : Setup C → Situation C → ℕ → ℕ → Entry → LogNo → Type 0
  IsWrongEntry setup world want at entry (NotLegal place) = (place ≡ at) × ¬ IsLegalIn setup world at entry
  IsWrongEntry setup world want at entry (WorkerOrder place next has) =
      (place ≡ at) × IsLegalIn setup world at entry × (next ≡ want) × (has ≡ entry.number) × (next ≢ has)
  IsWrongEntry setup world want at entry EndWrong = ⊥
  IsWrongEntry setup world want at entry OutOfMemory = ⊤

  -- ---- the end

  -- the script is used up, and nothing waits
  abbrev pub IsDone : Setup C → Situation C → Type 0
  IsDone setup world = (world.shared.inputs ≡ length setup.script) × IsQuiet world.shared.pools

  -- The run is complete, and this is its end: quiet where all is done, or else full where it has as many events as it may.
  abbrev pub EndsAs : Setup C → Situation C → ℕ → End → Type 0
  EndsAs setup world events Quiet = IsDone setup world
  EndsAs setup world events Full = (events ≡ setup.limits.max_events) × ¬ IsDone setup world

  -- ---- the whole history, by the meanings of the controllers

  module _ (react : C → UpItem → Reaction C) (first : C → C) where
    -- the world before the entry at a place: that after the events of all earlier entries
    abbrev pub world_before : Setup C → List Entry → ℕ → Situation C
    world_before setup entries at = after_all react first setup (map (λ entry. entry.event) (take at entries))

    -- the entry may stand at its place
    abbrev pub IsLegal : Setup C → List Entry → ℕ → Entry → Type 0
    IsLegal setup entries at entry = IsLegalIn setup (world_before setup entries at) at entry

    -- every internal event takes the first item of its pool, as in a legal run, and in any other history of events that can happen
    abbrev pub TakeHeads : Setup C → List Entry → Type 0
    TakeHeads setup entries = (at : ℕ) (entry : Entry) → slice_get entries at ≡ Some entry
        → TakesHead (world_before setup entries at).shared entry.event entry.item

    -- each entry before the place is legal, and its worker's next
    abbrev pub IsSoundTo : Setup C → List Entry → ℕ → Type 0
    IsSoundTo setup entries place = (at : ℕ) (entry : Entry) → at < place → slice_get entries at ≡ Some entry
        → IsLegal setup entries at entry × IsNextOfWorker entries at entry

    -- the world after the whole trace
    abbrev pub world_after : Setup C → Trace → Situation C
    world_after setup trace = world_before setup trace.entries (length trace.entries)

    -- the run is complete, and ends as the trace says
    abbrev pub IsEndRight : Setup C → Trace → Type 0
    IsEndRight setup trace = EndsAs setup (world_after setup trace) (length trace.entries) trace.end

    -- a complete run of the setup, whose entries are numbered in their workers' order
    pub record IsLegalRun (setup : Setup C) (trace : Trace) : Type 0 where
      pub entries : IsSoundTo setup trace.entries (length trace.entries)
      pub end : IsEndRight setup trace

    -- the first entry that is not sound stands at the place, and this is wrong with it
    pub record IsFirstWrong (setup : Setup C) (entries : List Entry) (at : ℕ) (entry : Entry) (no : LogNo) : Type 0 where
      pub here : slice_get entries at ≡ Some entry
      pub before : IsSoundTo setup entries at
      pub wrong : IsWrongEntry setup (world_before setup entries at) (earlier_of entries at entry.worker) at entry no

    -- what is wrong with a trace: its end, or its first entry that is not sound; want of memory says nothing of it
    abbrev pub IsWrong : Setup C → Trace → LogNo → Type 0
    IsWrong setup trace EndWrong = IsSoundTo setup trace.entries (length trace.entries) × ¬ IsEndRight setup trace
    IsWrong setup trace OutOfMemory = ⊤
    IsWrong setup trace why = (at : ℕ) × (entry : Entry) × IsFirstWrong setup trace.entries at entry why
