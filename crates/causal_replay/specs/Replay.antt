-- Replays: what becomes of a history where only some of its inputs are given. The rule follows the replays of STS (Scott and
-- others, 2014); the budget and what counts as alike are this project's own choices.
use Rattle.std.specs.Prelude.{◌≡◌, ℕ, ◌≤◌, ◌⊎◌, List, [], ◌∷◌, ◌++◌, length, map, flat_map, fold, take, slice_get, Bool, true, false, Some, None}
use Rattle.std.specs.List.{enumerate_from}
use Rattle.controller_api.specs.Reaction.{Reaction}
use Rattle.controller_api.specs.declared.item.UpItem.{UpItem}
use Rattle.machine_setup.specs.declared.setup.Setup.{Setup}
use Rattle.masked_equivalence.specs.Mask.{masked}
use Rattle.message_pools.specs.declared.item.Item.{Item}
use Rattle.pool_book.specs.declared.name.PoolName.{PoolName}
use Rattle.event_world.specs.Answers.{IsInputEvent}
use Rattle.event_world.specs.Events.{event_of, pool_name}
use Rattle.event_world.specs.Mail.{Shared}
use Rattle.event_world.specs.World.{Situation, first_event, first_item, next, start}
use Rattle.event_world.specs.declared.event.Event.{Event}
use Rattle.event_world.specs.declared.event.Event.TheVariants.{In}
use Rattle.event_machine.specs.declared.trace.Entry.{Entry}
use Rattle.causal_replay.specs.declared.replayed.Taken.{Taken}
use Rattle.causal_replay.specs.declared.replayed.Why.{Why}
use Rattle.causal_replay.specs.declared.replayed.Why.TheVariants.{Input, Expected, Extra}

-- ---- segments

-- What a replay takes for one entry: an input that is kept, by its position; nothing for one that is skipped; for an internal entry
-- extra events and then the one that was expected; or extra events alone, and then the entry is absent. The last two name the
-- entry's place.
pub data Segment : Type 0 where
  Kept : ℕ → Segment
  Skipped : Segment
  Met : ℕ → List Event → Event → Segment
  Missed : ℕ → List Event → Segment

-- events that no entry expects
abbrev pub as_extra : List Event → List Taken
as_extra events = map (λ event. record { event = event; why = Extra }) events

-- the events of a segment, each with its reason
abbrev pub steps_of : Segment → List Taken
steps_of (Kept position) = record { event = In position; why = Input } ∷ []
steps_of Skipped = []
steps_of (Met place extra event) = as_extra extra ++ record { event = event; why = Expected place } ∷ []
steps_of (Missed place extra) = as_extra extra

-- the place of its entry, if that is absent
abbrev pub absent_of : Segment → List ℕ
absent_of (Missed place extra) = place ∷ []
absent_of other = []

-- all segments joined
abbrev pub joined : List Segment → List Taken
joined segments = flat_map steps_of segments

-- the absent entries
abbrev pub absent_in : List Segment → List ℕ
absent_in segments = flat_map absent_of segments

-- the events without their reasons
abbrev pub events_of : List Taken → List Event
events_of steps = map (λ one. one.event) steps

-- ---- the steps of a history itself

-- the reason of an entry's own event: it is an input, or the entry expects it
abbrev pub own_reason : ℕ → Event → Why
own_reason at (In position) = Input
own_reason at internal = Expected at

-- an entry's own event
abbrev pub own_step : ℕ → Entry → Taken
own_step at entry = record { event = entry.event; why = own_reason at entry.event }

-- the events of entries, each taken for its own entry
abbrev pub own_steps : List Entry → List Taken
own_steps entries = map (λ one. own_step one.0 one.1) (enumerate_from 0 entries)

-- ---- what an entry expects

-- The event takes the head of the entry's pool, by the number that this head has now, and the head is alike to the entry's item.
pub record IsExpected (shared : Shared) (entry : Entry) (event : Event) : Type 0 where
  pub name : PoolName
  pub item : Item
  pub number : ℕ
  pub head : Item
  pub pool : pool_name entry.event ≡ Some name
  pub taken : entry.item ≡ Some item
  pub first : first_item name shared ≡ Some (number, head)
  pub alike : masked head ≡ masked item
  pub event_is : event ≡ event_of name number

-- the head of the entry's pool is alike to the entry's item
abbrev pub HasExpected : Shared → Entry → Type 0
HasExpected shared entry = (event : Event) × IsExpected shared entry event

module _ {C : Type 0} (react : C → UpItem → Reaction C) where
  -- the world after more events
  abbrev pub after : Setup C → Situation C → List Event → Situation C
  after setup world events = fold (next react setup) world events

  -- Extra events are taken for an entry: at most as many as the budget allows; before each of them the head of the entry's pool is
  -- not alike to the entry's item, and each is the first that is enabled, in the order of pools.
  pub record IsWait (setup : Setup C) (world : Situation C) (entry : Entry) (extra : List Event) : Type 0 where
    pub few : length extra ≤ setup.limits.budget
    pub each : (at : ℕ) (event : Event) → slice_get extra at ≡ Some event
        → (¬ HasExpected (after setup world (take at extra)).shared entry) × (first_event (after setup world (take at extra)).shared ≡ Some event)

  -- after the extra events the expected one is taken
  pub record IsMeeting (setup : Setup C) (world : Situation C) (entry : Entry) (extra : List Event) (event : Event) : Type 0 where
    pub wait : IsWait setup world entry extra
    pub expected : IsExpected (after setup world extra).shared entry event

  -- After the extra events the head is still not alike, and no more are taken: the budget is spent, or nothing is enabled.
  pub record IsMiss (setup : Setup C) (world : Situation C) (entry : Entry) (extra : List Event) : Type 0 where
    pub internal : ¬ IsInputEvent entry.event
    pub wait : IsWait setup world entry extra
    pub unmet : ¬ HasExpected (after setup world extra).shared entry
    pub spent : (length extra ≡ setup.limits.budget) ⊎ (first_event (after setup world extra).shared ≡ None)

  -- what may be taken for the entry at a place, in the world to which the earlier segments lead, where these lines are kept
  abbrev pub IsSegment : Setup C → List Bool → ℕ → Situation C → Entry → Segment → Type 0
  IsSegment setup keep at world entry (Kept position) = (entry.event ≡ In position) × (slice_get keep position ≡ Some true)
  IsSegment setup keep at world entry Skipped = (position : ℕ) × (entry.event ≡ In position) × (slice_get keep position ≡ Some false)
  IsSegment setup keep at world entry (Met place extra event) = (place ≡ at) × IsMeeting setup world entry extra event
  IsSegment setup keep at world entry (Missed place extra) = (place ≡ at) × IsMiss setup world entry extra

  -- ---- the whole replay

  module _ (first : C → C) where
    -- the world after steps, from the start
    abbrev pub world_at : Setup C → List Taken → Situation C
    world_at setup steps = after setup (start first setup) (events_of steps)

    -- each segment is one of the entry at its place
    abbrev pub AreSegments : Setup C → List Entry → List Bool → List Segment → Type 0
    AreSegments setup entries keep segments = (at : ℕ) (entry : Entry) (segment : Segment) → slice_get entries at ≡ Some entry → slice_get segments at ≡ Some segment
        → IsSegment setup keep at (world_at setup (joined (take at segments))) entry segment

    -- A replay of entries: a segment for each entry; the run is all of them joined, and the world is what the run leads to.
    pub record IsReplay (setup : Setup C) (entries : List Entry) (keep : List Bool) (run : List Taken) (absent : List ℕ) (world : Situation C) : Type 0 where
      pub segments : List Segment
      pub count : length segments ≡ length entries
      pub each : AreSegments setup entries keep segments
      pub run_is : run ≡ joined segments
      pub absent_is : absent ≡ absent_in segments
      pub world_is : world ≡ world_at setup run
