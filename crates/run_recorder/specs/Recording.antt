-- What a recording has come to, and what one of its workers knows of it.
use Rattle.std.specs.Prelude.{◌≡◌, ℕ, ◌≤◌, ◌⊎◌, List, [], length, All, Option, Some, option_map, true}
use Rattle.std.specs.List.{concat}
use Rattle.atomic_table.specs.Seated.{TableId}
use Rattle.controller_api.specs.Reaction.{Reaction}
use Rattle.controller_api.specs.declared.item.UpItem.{UpItem}
use Rattle.machine_setup.specs.Setup.{IsValidSetup}
use Rattle.machine_setup.specs.declared.setup.Setup.{Setup}
use Rattle.message_pools.specs.declared.item.Item.{Item}
use Rattle.turn_book.specs.History.{IsMarked}
use Rattle.turn_book.specs.declared.view.View.{View}
use Rattle.event_world.specs.Events.{actor_of}
use Rattle.event_world.specs.Fits.{Fits}
use Rattle.event_world.specs.Mail.{Shared}
use Rattle.event_world.specs.World.{Situation, head_for}
use Rattle.event_world.specs.declared.event.Event.{Event}
use Rattle.event_machine.specs.Holding.{IsEntryOf}
use Rattle.event_machine.specs.Legal.{IsDone, IsLegalEvent, IsSoundTo, world_before}
use Rattle.event_machine.specs.declared.trace.Entry.{Entry}
use Rattle.run_recorder.specs.Workers.{entry_mark, marks_for, worker_of}
use Rattle.run_recorder.specs.declared.book.Subject.{Subject}

-- the beginning of a run of a setup, and the world to which it leads
pub record Begun (C : Type 0) : Type 0 where
  pub setup : Setup C
  pub entries : List Entry
  pub world : Situation C

-- the beginning of a run that so many workers record
pub record Recording (C : Type 0) : Type 0 where
  pub begun : Begun C
  pub workers : ℕ

-- a worker of a recording, by its number, with its seat: at which book it is, and what it knows
pub record Working (C : Type 0) : Type 0 where
  pub setup : Setup C
  pub workers : ℕ
  pub worker : ℕ
  pub book : Option TableId
  pub view : View Entry (Subject C)

-- the item that an event takes: the first one of its pool; an input takes none
abbrev pub item_for : Shared → Event → Option Item
item_for shared event = option_map (λ head. head.1) (head_for shared event)

module _ {C : Type 0} where
  -- the event may stand next in a world: an input is the next line, an internal event takes the first item of its pool
  abbrev pub MayStand : Setup C → Situation C → Event → Type 0
  MayStand setup world event = IsLegalEvent setup world event (item_for world.shared event)

  -- the entry by which a worker enters an event
  abbrev pub entry_in : Situation C → ℕ → ℕ → Event → Entry
  entry_in world worker number event = record { worker = worker; number = number; event = event; item = item_for world.shared event }

  -- each entry names the worker that has its event's actor
  abbrev pub IsDealt : Setup C → ℕ → List Entry → Type 0
  IsDealt setup workers entries = All (λ entry. entry.worker ≡ worker_of setup workers (actor_of entry.event)) entries

  -- What a worker's seat is: it has the worker's marks and no others, nothing was joined into it, and it is about the setup and the
  -- number of workers. Worker 0 has entered nothing. The history that was seen has no more entries than it may have.
  pub record IsWorking (working : Working C) : Type 0 where
    pub valid : IsValidSetup working.setup
    pub some : 1 ≤ working.workers
    pub few : working.workers ≤ 8
    pub number : working.worker ≤ working.workers
    pub live : working.view.live ≡ true
    pub marks : working.view.marks ≡ marks_for working.workers working.worker
    pub subject : working.view.subject ≡ Some (record { setup = working.setup; workers = working.workers })
    pub start : working.view.start ≡ 0
    pub marked : IsMarked entry_mark working.view
    pub alone : length working.view.own ≡ 1
    pub idle : working.worker ≡ 0 → concat working.view.own ≡ []
    pub room : length working.view.seen ≤ working.setup.limits.max_events

module _ {C : Type 0} (react : C → UpItem → Reaction C) (first : C → C) where
  -- the world after entries
  abbrev pub world_at : Setup C → List Entry → Situation C
  world_at setup entries = world_before react first setup entries (length entries)

  -- nothing is left to happen: all is done, or there are as many entries as there may be
  abbrev pub IsComplete : Setup C → List Entry → Type 0
  IsComplete setup entries = IsDone setup (world_at setup entries) ⊎ (length entries ≡ setup.limits.max_events)

  -- the entries are the beginning of a legal run, and lead to the world; each is one that a run of the setup can have
  pub record IsBegun (policies : C → ℕ) (begun : Begun C) : Type 0 where
    pub valid : IsValidSetup begun.setup
    pub comes_to : begun.world ≡ world_at begun.setup begun.entries
    pub fits : Fits policies begun.setup begun.world
    pub sound : IsSoundTo react first begun.setup begun.entries (length begun.entries)
    pub few : length begun.entries ≤ begun.setup.limits.max_events
    pub holding : All (IsEntryOf begun.setup) begun.entries

  -- and each entry is of the worker that has its actor
  pub record IsRecording (policies : C → ℕ) (recording : Recording C) : Type 0 where
    pub begun : IsBegun policies recording.begun
    pub some : 1 ≤ recording.workers
    pub most : recording.workers ≤ 8
    pub dealt : IsDealt recording.begun.setup recording.workers recording.begun.entries
