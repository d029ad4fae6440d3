-- Workers that record at once, and what the passes of their gates tell.
use Rattle.std.specs.Prelude.{◌≡◌, ◌≢◌, ℕ, ◌+◌, ◌<◌, List, length, map, slice_get, All, Some}
use Rattle.controller_api.specs.Reaction.{Reaction}
use Rattle.controller_api.specs.declared.item.UpItem.{UpItem}
use Rattle.machine_setup.specs.declared.setup.Setup.{Setup}
use Rattle.event_machine.specs.Legal.{earlier_of}
use Rattle.event_machine.specs.declared.trace.Entry.{Entry}
use Rattle.run_recorder.specs.Answers.{IsPartOf}
use Rattle.run_recorder.specs.Driving.{HasLeft, IsSameWorker}
use Rattle.run_recorder.specs.Gates.{Rise}
use Rattle.run_recorder.specs.Recorder.{recorded}
use Rattle.run_recorder.specs.Recording.{Working}
use Rattle.run_recorder.specs.Workers.{actor_count}
use Rattle.run_recorder.specs.declared.at_once.Stint.{Stint}
use Rattle.run_recorder.specs.declared.recorder.Recorder.{Recorder}
use Rattle.run_recorder.specs.declared.drive.Left.{Left}
use Rattle.run_recorder.specs.declared.drive.Left.TheVariants as leave

-- how many of the entries name a worker
abbrev pub entries_of : List Entry → ℕ → ℕ
entries_of entries worker = earlier_of entries (length entries) worker

module _ {C : Type 0} where
  -- The passes of the workers' gates rose by as much as the entries tell: each by that worker's entries at least; and where an entry is
  -- worker 0's, by the patience more, for each worker that has an actor. Worker i has the gate at i - 1.
  pub record TellsByPasses {G : Type 0} (passes : G → ℕ) (setup : Setup C) (old new : List G) (entries : List Entry) : Type 0 where
    pub gates : length new ≡ length old
    pub each : (at : ℕ) (before now : G) → at < setup.limits.workers → slice_get old at ≡ Some before → slice_get new at ≡ Some now
        → Rise (passes before) (passes now) (entries_of entries (at + 1))
    pub tired : (at place : ℕ) (before now : G) (entry : Entry) → slice_get entries place ≡ Some entry → entry.worker ≡ 0
        → at < setup.limits.workers → at < actor_count setup → slice_get old at ≡ Some before → slice_get new at ≡ Some now
        → Rise (passes before) (passes now) (setup.limits.patience + entries_of entries (at + 1))

  -- a stint at each part of a recorder, of which none has begun
  pub record AreStints (recorder : Recorder C) (parts : List (Working C)) (stints : List (Stint C)) : Type 0 where
    pub same : map (λ stint. stint.part) stints ≡ parts
    pub of : All (λ stint. stint.recorder.now ≡ recorder) stints

  -- the parts came back, and no worker left for want of memory
  pub record CameBack (stints : List (Stint C)) (parts : List (Working C)) : Type 0 where
    pub same : parts ≡ map (λ stint. stint.part) stints
    pub memory : All (λ stint. stint.left ≢ Some leave.OutOfMemory) stints

  module _ (react : C → UpItem → Reaction C) (first : C → C) where
    -- the worker went round until it left, while its gate was passed from so often to so often
    pub record HasServed (before now : ℕ) (old new : Stint C) : Type 0 where
      pub recorder : new.recorder.now ≡ old.recorder.now
      pub part : IsPartOf (recorded old.recorder.now) new.part
      pub same : IsSameWorker old.part new.part
      pub why : Left
      pub left : new.left ≡ Some why
      pub cause : HasLeft react first before now old.part new.part why

    -- a worker has left, and not for want of memory
    pub record IsAway (before now : ℕ) (old new : Working C) : Type 0 where
      pub same : IsSameWorker old new
      pub why : Left
      pub memory : why ≢ leave.OutOfMemory
      pub cause : HasLeft react first before now old new why

    -- All workers have left, each with its own gate: worker i with the gate at i - 1. Worker 0 is as it was.
    pub record AreAway {G : Type 0} (passes : G → ℕ) (gates later : List G) (parts after : List (Working C)) : Type 0 where
      pub count : length later ≡ length gates
      pub idle : slice_get after 0 ≡ slice_get parts 0
      pub each : (at : ℕ) (before now : G) (old new : Working C) → slice_get gates at ≡ Some before → slice_get later at ≡ Some now
          → slice_get parts (at + 1) ≡ Some old → slice_get after (at + 1) ≡ Some new → IsAway (passes before) (passes now) old new
