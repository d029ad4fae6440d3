-- What the entries of one actor alone make of its state.
use Rattle.std.specs.Prelude.{◌≡◌, ℕ, ◌+◌, ◌≤◌, ◌⊎◌, List, filter_map, fold, slice_get, slice_index, Option, Some, None, option_map, option_and_then, if◌then◌else◌}
use Rattle.std.specs.Option.{option_map_or}
use Rattle.controller_api.specs.Reaction.{Reaction}
use Rattle.controller_api.specs.declared.item.UpItem.{UpItem}
use Rattle.machine_setup.specs.declared.setup.Setup.{Setup}
use Rattle.message_pools.specs.declared.item.Item.{Item}
use Rattle.pool_book.specs.Names.{is_same_actor}
use Rattle.pool_book.specs.declared.actor.Actor.{Actor}
use Rattle.pool_book.specs.declared.name.PoolName.{PoolName}
use Rattle.switch_core.specs.State.{fresh}
use Rattle.switch_core.specs.declared.state.State.{State}
use Rattle.event_world.specs.Events.{actor_of, pool_name}
use Rattle.event_world.specs.Inputs.{fails}
use Rattle.event_world.specs.World.{Situation, heard_by, start, switch_step}
use Rattle.event_world.specs.declared.event.Event.{Event}
use Rattle.event_world.specs.declared.event.Event.TheVariants.{In}
use Rattle.event_machine.specs.Legal.{world_before}
use Rattle.event_machine.specs.declared.trace.Entry.{Entry}

-- ---- what an actor takes

-- the item of an entry and its pool, if it is the actor that takes it
abbrev pub taken_by : Actor → Entry → Option (PoolName × Item)
taken_by who entry =
    if is_same_actor who (actor_of entry.event)
    then option_and_then (λ name. option_map (λ item. (name, item)) entry.item) (pool_name entry.event)
    else None

-- the items that an actor takes in a history, in order, each with its pool
abbrev pub all_taken_by : Actor → List Entry → List (PoolName × Item)
all_taken_by who entries = filter_map (taken_by who) entries

-- a switch that has taken items, one after the other
abbrev pub switch_through : List (PoolName × Item) → State → State
switch_through items state = fold (λ state one. (switch_step state one.0 one.1).state) state items

module _ {C : Type 0} where
  -- a controller that has taken items, one after the other
  abbrev pub controller_through : (C → UpItem → Reaction C) → List (PoolName × Item) → C → C
  controller_through react items state =
      fold (λ state one. option_map_or (λ item. (react state item).state) (heard_by one.0 one.1) state) state items

  -- ---- since when the items of a switch count

  -- the switch that an event makes lose its state, if it makes one: the one that fails while it is up
  abbrev pub lost_at : Setup C → Situation C → Event → Option ℕ
  lost_at setup world (In position) = option_and_then (λ line. fails world.shared.status line.input) (slice_get setup.script position)
  lost_at setup world internal = None

  module _ (react : C → UpItem → Reaction C) (first : C → C) where
    -- the entry at the place makes the switch lose its state
    abbrev pub IsLossAt : Setup C → List Entry → ℕ → ℕ → Type 0
    IsLossAt setup entries s at =
        (entry : Entry) × (slice_get entries at ≡ Some entry) × (lost_at setup (world_before react first setup entries at) entry.event ≡ Some s)

    -- the switch loses its state at no place from this one on
    abbrev pub KeepsFrom : Setup C → List Entry → ℕ → ℕ → Type 0
    KeepsFrom setup entries s from = (at : ℕ) → from ≤ at → ¬ IsLossAt setup entries s at

    -- The state of a switch before the entry at the place, where the history begins there for it: its state at the start, or a
    -- fresh one, as it lost its own just before.
    abbrev pub BeginsAt : Setup C → List Entry → ℕ → ℕ → State → Type 0
    BeginsAt setup entries s from state =
        ((from ≡ 0) × (slice_get (start first setup).switches s ≡ Some state))
        ⊎ ((loss : ℕ) × (from ≡ loss + 1) × IsLossAt setup entries s loss × (state ≡ fresh s (slice_index setup.topology.ports s)))

    -- the place and the state with which the last life of a switch begins
    abbrev pub IsLastBeginning : Setup C → List Entry → ℕ → ℕ → State → Type 0
    IsLastBeginning setup entries s from state = BeginsAt setup entries s from state × KeepsFrom setup entries s from
