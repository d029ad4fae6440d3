-- What the calls of a recorder answer, and what each answer tells.
use Rattle.std.specs.Prelude.{◌≡◌, ◌≢◌, ℕ, ◌+◌, ◌*◌, ◌≤◌, ◌<◌, ◌==◌, ◌⊎◌, List, [], ◌∷◌, ◌++◌, length, slice_get, All, Some, None}
use Rattle.std.specs.List.{concat}
use mathlib.Core.List.{IsPrefix}
use Rattle.atomic_table.specs.Seated.{TableId}
use Rattle.controller_api.specs.Reaction.{Reaction}
use Rattle.controller_api.specs.declared.item.UpItem.{UpItem}
use Rattle.machine_setup.specs.declared.setup.Setup.{Setup}
use Rattle.pool_book.specs.declared.actor.Actor.{Actor}
use Rattle.turn_book.specs.Places.{one_if, times}
use Rattle.turn_book.specs.Steps.{committed, having_met, left, won}
use Rattle.turn_book.specs.Words.{IsBusy}
use Rattle.turn_book.specs.declared.view.View.{View}
use Rattle.event_world.specs.Answers.{IsActor, IsInputEvent, first_event_of}
use Rattle.event_world.specs.Events.{actor_of, number_of}
use Rattle.event_world.specs.World.{head_number}
use Rattle.event_machine.specs.Legal.{world_before}
use Rattle.event_machine.specs.declared.trace.Entry.{Entry}
use Rattle.run_recorder.specs.Recording.{IsComplete, MayStand, Working, entry_in, world_at}
use Rattle.run_recorder.specs.Workers.{worker_of}
use Rattle.run_recorder.specs.declared.answers.Offered.{Offered}
use Rattle.run_recorder.specs.declared.answers.Offered.TheVariants as offer
use Rattle.run_recorder.specs.declared.answers.Committed.{Committed}
use Rattle.run_recorder.specs.declared.answers.Committed.TheVariants as commit
use Rattle.run_recorder.specs.declared.book.Subject.{Subject}
use Rattle.run_recorder.specs.declared.task.Deed.{Deed}

-- ---- parts of a recorder

-- the recorder's book, what it records, and by how many workers
pub record Recorded (C : Type 0) : Type 0 where
  pub setup : Setup C
  pub workers : ℕ
  pub book : TableId

module _ {C : Type 0} where
  -- the worker is one of the recorder's
  pub record IsPartOf (recorder : Recorded C) (working : Working C) : Type 0 where
    pub setup : working.setup ≡ recorder.setup
    pub workers : working.workers ≡ recorder.workers
    pub book : working.book ≡ Some recorder.book

  -- all workers of the recorder, in order, from worker 0 on
  pub record AreParts (recorder : Recorded C) (parts : List (Working C)) : Type 0 where
    pub count : length parts ≡ recorder.workers + 1
    pub each : (worker : ℕ) (working : Working C) → slice_get parts worker ≡ Some working → IsPartOf recorder working × (working.worker ≡ worker)

  -- the worker has seen nothing of a run yet, and has entered nothing
  pub record IsIdle (working : Working C) : Type 0 where
    pub seen : working.view.seen ≡ []
    pub own : working.view.own ≡ [] ∷ []
    pub met : working.view.met ≡ []
    pub turns : working.view.turns ≡ 0

  -- the actor is one of the worker's
  abbrev pub HasActor : Working C → Actor → Type 0
  HasActor working who = IsActor working.setup who × (worker_of working.setup working.workers who ≡ working.worker)

  -- the worker has no actor
  abbrev pub HasNoActor : Working C → Type 0
  HasNoActor working = (who : Actor) → ¬ HasActor working who

  -- the places of the worker's own entries
  abbrev pub own_places : Working C → List ℕ
  own_places working = concat working.view.own

  -- ---- what a turn tells

  -- the view of a worker that won a turn, and met this history
  abbrev pub winning : List Entry → View Entry (Subject C) → View Entry (Subject C)
  winning history view = won (2 * length history) history (having_met (2 * length history) view)

  -- The worker won one turn and gave it back, and nothing was entered: it has seen the whole history, which begins with what it had
  -- seen before.
  pub record IsLook (old new : Working C) : Type 0 where
    pub begins : IsPrefix old.view.seen new.view.seen
    pub view : new ≡ record old { view = left (2 * length new.view.seen) (winning new.view.seen old.view) }

  -- The worker looked, and did not win a turn: another had it, or won it in between.
  abbrev pub IsRefused : Working C → Working C → ℕ → ℕ → Type 0
  IsRefused old new looked found = IsBusy old.view new.view looked found × (new ≡ record old { view = new.view })

  -- a turn is given back: with an entry more where the deed was entered, and else as it was
  abbrev pub IsGivenBack : View Entry (Subject C) → View Entry (Subject C) → Committed → Type 0
  IsGivenBack old new (commit.Entered place) = new ≡ committed (2 * length new.seen) new.seen old
  IsGivenBack old new answer = new ≡ left (2 * length old.seen) old

  module _ (react : C → UpItem → Reaction C) (first : C → C) where
    -- the history that the worker has seen is complete
    abbrev pub HasSeenAll : Working C → Type 0
    HasSeenAll working = IsComplete react first working.setup working.view.seen

    -- What a turn finds for an actor, where the history has these entries: the actor's first event, none, or that the run is complete;
    -- each with the length of the history.
    abbrev pub IsFound : Setup C → List Entry → Actor → Offered → Type 0
    IsFound setup entries who (offer.Work task) = (¬ IsComplete react first setup entries)
        × (first_event_of setup (world_at react first setup entries).shared who ≡ Some task.event) × (task.place ≡ length entries)
    IsFound setup entries who (offer.NothingNow place) = (¬ IsComplete react first setup entries)
        × (first_event_of setup (world_at react first setup entries).shared who ≡ None) × (place ≡ length entries)
    IsFound setup entries who (offer.Ended place) = IsComplete react first setup entries × (place ≡ length entries)
    IsFound setup entries who (offer.Busy looked found) = ⊥

    -- what an offer of an actor's work answers: what a turn finds; or, where there was no turn, what the looks met
    abbrev pub IsOffer : Working C → Working C → Actor → Offered → Type 0
    IsOffer old new who (offer.Busy looked found) = IsRefused old new looked found
    IsOffer old new who answer = IsLook old new × IsFound new.setup new.view.seen who answer

    -- The deed was offered to the worker: its event was its actor's first one after a beginning of what the worker has seen; and since
    -- then the worker has entered no event of that actor.
    pub record IsDue (working : Working C) (deed : Deed) : Type 0 where
      pub has : HasActor working (actor_of deed.task.event)
      pub place : deed.task.place ≤ length working.view.seen
      pub offered : first_event_of working.setup (world_before react first working.setup working.view.seen deed.task.place).shared (actor_of deed.task.event) ≡ Some deed.task.event
      pub since : (at : ℕ) (entry : Entry) → deed.task.place ≤ at → slice_get working.view.seen at ≡ Some entry → 0 < times at (own_places working)
          → actor_of entry.event ≢ actor_of deed.task.event

    -- What becomes of a deed in a turn, where the history has these entries, and then those: its event is entered last, by the worker
    -- and under its number, with the item that it takes; or nothing is entered. Overtaken: the first item of the pool is another one
    -- than the deed's, which is said of no line of the script. Every answer but Entered hands the deed back.
    abbrev pub BecomesOf : Setup C → List Entry → List Entry → ℕ → ℕ → Deed → Committed → Type 0
    BecomesOf setup entries after worker number deed (commit.Entered place) = (¬ IsComplete react first setup entries) × (place ≡ length entries)
        × MayStand setup (world_at react first setup entries) deed.task.event
        × (after ≡ entries ++ entry_in (world_at react first setup entries) worker number deed.task.event ∷ [])
    BecomesOf setup entries after worker number deed (commit.Overtaken back item head) = (after ≡ entries) × (¬ IsComplete react first setup entries) × (back ≡ deed)
        × (¬ IsInputEvent deed.task.event) × (item ≡ number_of deed.task.event)
        × (head ≡ head_number (world_at react first setup entries).shared deed.task.event) × (head ≢ Some item)
    BecomesOf setup entries after worker number deed (commit.Ended back place) = (after ≡ entries) × IsComplete react first setup entries × (back ≡ deed) × (place ≡ length entries)
    BecomesOf setup entries after worker number deed (commit.Busy back looked found) = ⊥
    BecomesOf setup entries after worker number deed (commit.OutOfMemory back) = (after ≡ entries) × (¬ IsComplete react first setup entries) × (back ≡ deed)

    -- The deed was entered in a turn that met this history, which begins with what the worker had seen.
    pub record IsEntered (old new : Working C) (deed : Deed) (answer : Committed) : Type 0 where
      pub history : List Entry
      pub begins : IsPrefix old.view.seen history
      pub becomes : BecomesOf old.setup history new.view.seen old.worker (length (own_places old)) deed answer
      pub view : new ≡ record old { view = committed (2 * length new.view.seen) new.view.seen (winning history old.view) }

    -- what entering a deed answers: what a turn makes of it; or, where there was no turn, what the looks met
    abbrev pub IsCommit : Working C → Working C → Deed → Committed → Type 0
    IsCommit old new deed (commit.Entered place) = IsEntered old new deed (commit.Entered place)
    IsCommit old new deed (commit.Busy back looked found) = IsRefused old new looked found × (back ≡ deed)
    IsCommit old new deed answer = IsLook old new × BecomesOf old.setup new.view.seen new.view.seen old.worker (length (own_places old)) deed answer

  -- ---- the whole run

  -- the entries that name a worker, but for worker 0, are its own ones, each at its place
  pub record IsOwnerOf (working : Working C) (entries : List Entry) : Type 0 where
    pub places : 1 ≤ working.worker → (at : ℕ) (entry : Entry) → slice_get entries at ≡ Some entry
        → times at (own_places working) ≡ one_if (entry.worker == working.worker)
    pub within : (at : ℕ) → length entries ≤ at → times at (own_places working) ≡ 0

  -- the worker has seen a beginning of the run, in which no entry is worker 0's
  pub record HasSeenOf (working : Working C) (entries : List Entry) : Type 0 where
    pub begins : IsPrefix working.view.seen entries
    pub others : All (λ entry. 1 ≤ entry.worker) working.view.seen

  -- each entry names worker 0, or the worker that has its event's actor
  abbrev pub AreDealt : Setup C → ℕ → List Entry → Type 0
  AreDealt setup workers entries = (at : ℕ) (entry : Entry) → slice_get entries at ≡ Some entry
      → (entry.worker ≡ 0) ⊎ (entry.worker ≡ worker_of setup workers (actor_of entry.event))

-- the entries of worker 0 come after all others
abbrev pub RestComesLast : List Entry → Type 0
RestComesLast entries = (at later : ℕ) (entry other : Entry) → at ≤ later → slice_get entries at ≡ Some entry → slice_get entries later ≡ Some other
    → entry.worker ≡ 0 → other.worker ≡ 0
