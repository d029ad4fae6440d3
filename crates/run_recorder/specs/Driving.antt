-- How a worker goes round its actors, and what its leaving tells.
use Rattle.std.specs.Prelude.{◌≡◌, ℕ, ◌+◌, ◌-◌, ◌*◌, ◌≤◌, ◌<◌, length}
use mathlib.Core.List.{IsPrefix}
use Rattle.controller_api.specs.Reaction.{Reaction}
use Rattle.controller_api.specs.declared.item.UpItem.{UpItem}
use Rattle.run_recorder.specs.Answers.{HasActor, HasNoActor, HasSeenAll, IsDue, own_places}
use Rattle.run_recorder.specs.Gates.{Rise}
use Rattle.run_recorder.specs.Recording.{Working}
use Rattle.run_recorder.specs.declared.drive.Errand.{Errand}
use Rattle.run_recorder.specs.declared.drive.Errand.TheVariants as errand
use Rattle.run_recorder.specs.declared.drive.Left.{Left}
use Rattle.run_recorder.specs.declared.drive.Left.TheVariants as leave
use Rattle.run_recorder.specs.declared.drive.Round.{Round}
use Rattle.run_recorder.specs.declared.drive.Round.TheVariants as round

module _ {C : Type 0} where
  -- how many events the worker has entered
  abbrev pub entered : Working C → ℕ
  entered working = length (own_places working)

  -- how often it looked whether it may have the turn
  abbrev pub looks : Working C → ℕ
  looks working = length working.view.met

  -- It is the same worker, and it has lost nothing: what it had seen and entered stands, and its turns and looks count on.
  pub record IsSameWorker (old new : Working C) : Type 0 where
    pub setup : new.setup ≡ old.setup
    pub workers : new.workers ≡ old.workers
    pub worker : new.worker ≡ old.worker
    pub book : new.book ≡ old.book
    pub seen : IsPrefix old.view.seen new.view.seen
    pub own : IsPrefix (own_places old) (own_places new)
    pub turns : old.view.turns ≤ new.view.turns
    pub looked : looks old ≤ looks new

  module _ (react : C → UpItem → Reaction C) (first : C → C) where
    -- ---- one round

    -- the worker may go about it: the actor is one of its own, or the deed is due
    abbrev pub IsErrand : Working C → Errand → Type 0
    IsErrand working (errand.Ask who) = HasActor working who
    IsErrand working (errand.Enter deed) = IsDue react first working deed

    -- a turn of the worker's told it that the run is complete, with so many entries
    pub record IsTold (old new : Working C) (place : ℕ) : Type 0 where
      pub turns : old.view.turns < new.view.turns
      pub complete : HasSeenAll react first new
      pub count : place ≡ length new.view.seen

    -- What a round comes to. An event was entered, by two looks at least; or none was, by one look at least. The worker may go about
    -- what is next.
    abbrev pub AfterRound : Working C → Working C → Round → Type 0
    AfterRound old new (round.Entered next) = (entered new ≡ entered old + 1) × (looks old + 2 ≤ looks new)
        × (length old.view.seen < length new.view.seen) × IsErrand new next
    AfterRound old new (round.Vain next) = (entered new ≡ entered old) × (looks old + 1 ≤ looks new) × IsErrand new next
    AfterRound old new (round.Ended place) = (entered new ≡ entered old) × IsTold old new place
    AfterRound old new round.OutOfMemory = entered new ≡ entered old

    -- ---- leaving

    -- why a worker may leave, where its gate had been passed so often, and then so often
    abbrev pub IsCause : ℕ → ℕ → Working C → Working C → Left → Type 0
    IsCause before now old new leave.NoActor = HasNoActor old × (new ≡ old)
    IsCause before now old new (leave.Ended place) = (¬ HasNoActor old) × IsTold old new place
    IsCause before now old new leave.Tired = (¬ HasNoActor old)
        × Rise before now (old.setup.limits.patience + (entered new - entered old))
        × (looks old + old.setup.limits.patience + 2 * (entered new - entered old) ≤ looks new)
    IsCause before now old new leave.OutOfMemory = ¬ HasNoActor old

    -- The worker left: it passed its gate before each event that it entered, it made no round where there is no patience, and it had
    -- a cause.
    pub record HasLeft (before now : ℕ) (old new : Working C) (why : Left) : Type 0 where
      pub passes : Rise before now (entered new - entered old)
      pub impatient : old.setup.limits.patience ≡ 0 → new ≡ old
      pub cause : IsCause before now old new why
