-- How a replay goes on by an entry.
use Rattle.std.specs.Prelude.{◌≡◌, ℕ, ◌+◌, ◌<◌, ◌≤◌, ◌⊎◌, List, ◌++◌, length, Bool, Option, Some, None}
use Rattle.controller_api.specs.Reaction.{Reaction}
use Rattle.controller_api.specs.declared.item.UpItem.{UpItem}
use Rattle.machine_setup.specs.declared.setup.Setup.{Setup}
use Rattle.event_world.specs.Events.{input_count}
use Rattle.event_world.specs.Fits.{Fits}
use Rattle.event_world.specs.World.{Situation, first_event}
use Rattle.event_world.specs.declared.event.Event.{Event}
use Rattle.event_world.specs.declared.event.Event.TheVariants.{In}
use Rattle.event_machine.specs.declared.trace.Entry.{Entry}
use Rattle.causal_replay.specs.Replay.{HasExpected, IsExpected, IsSegment, IsWait, Segment, absent_of, after, as_extra, events_of, steps_of}
use Rattle.causal_replay.specs.declared.replayed.Taken.{Taken}

module _ {C : Type 0} where
  -- where the event is an input, the script has its line, and there were few enough inputs for one more
  abbrev pub IsReady : Setup C → Situation C → Event → Type 0
  IsReady setup world event = (position : ℕ) → event ≡ In position → (position < length setup.script) × (world.shared.inputs < 4294)

  -- How a wait ended: with the expected event, or with none, where the budget is spent or nothing is enabled.
  abbrev pub EndsWait : Setup C → Situation C → Entry → List Event → Option Event → Type 0
  EndsWait setup world entry extra (Some event) = IsExpected world.shared entry event
  EndsWait setup world entry extra None = (¬ HasExpected world.shared entry) × ((length extra ≡ setup.limits.budget) ⊎ (first_event world.shared ≡ None))

  module _ (react : C → UpItem → Reaction C) (policies : C → ℕ) where
    -- extra events were taken for an entry
    pub record Waits (setup : Setup C) (entry : Entry) (extra : List Event) (old_run new_run : List Taken) (old_world new_world : Situation C) : Type 0 where
      pub wait : IsWait react setup old_world entry extra
      pub run : new_run ≡ old_run ++ as_extra extra
      pub world : new_world ≡ after react setup old_world extra
      pub fits : Fits policies setup new_world
      pub events : new_world.shared.events ≡ old_world.shared.events + length extra
      pub inputs : new_world.shared.inputs ≡ old_world.shared.inputs

    -- extra events were taken until the wait was over
    pub record Awaits (setup : Setup C) (entry : Entry) (old_run new_run : List Taken) (old_world new_world : Situation C) (awaited : Option Event) : Type 0 where
      pub extra : List Event
      pub waits : Waits setup entry extra old_run new_run old_world new_world
      pub ends : EndsWait setup new_world entry extra awaited

    -- a segment of the entry was taken
    pub record GoesOn (setup : Setup C) (keep : List Bool) (at : ℕ) (entry : Entry) (old_run new_run : List Taken) (old_absent new_absent : List ℕ) (old_world new_world : Situation C) : Type 0 where
      pub segment : Segment
      pub is_segment : IsSegment react setup keep at old_world entry segment
      pub run : new_run ≡ old_run ++ steps_of segment
      pub absent : new_absent ≡ old_absent ++ absent_of segment
      pub world : new_world ≡ after react setup old_world (events_of (steps_of segment))
      pub fits : Fits policies setup new_world
      pub events : new_world.shared.events ≤ old_world.shared.events + 65
      pub inputs : new_world.shared.inputs ≤ old_world.shared.inputs + input_count entry.event
