-- The world: what the machine has come to, how it starts, what is enabled, and how an event changes it.
use Rattle.std.specs.Prelude.{◌≡◌, ℕ, ◌+◌, ◌<◌, List, ◌++◌, length, map, filter_map, fold, replicate, slice_get, slice_set, slice_index, Option, Some, None, option_map, option_and_then}
use Rattle.std.specs.List.{enumerate_from, zip}
use Rattle.std.specs.Option.{option_map_or}
use Rattle.listed.specs.Lists.{changed_at}
use Rattle.controller_api.specs.Reaction.{Reaction}
use Rattle.controller_api.specs.declared.item.UpItem.{UpItem}
use Rattle.controller_api.specs.declared.item.UpItem.TheVariants as heard
use Rattle.machine_setup.specs.Setup.{entry_of}
use Rattle.machine_setup.specs.declared.preset.Preset.{Preset}
use Rattle.machine_setup.specs.declared.script.Input.{Input}
use Rattle.machine_setup.specs.declared.script.Line.{Line}
use Rattle.machine_setup.specs.declared.setup.Setup.{Setup}
use Rattle.message_pools.specs.Queue.{flushed, head_of, rest_of}
use Rattle.message_pools.specs.declared.item.Item.{Item}
use Rattle.message_pools.specs.declared.item.Item.TheVariants as item
use Rattle.of10_messages.specs.declared.notice.Notice.TheVariants.{Join}
use Rattle.pool_book.specs.Pools.{Named, changed, empty_pools, first_waiting, pool_of}
use Rattle.pool_book.specs.declared.name.PoolName.{PoolName}
use Rattle.pool_book.specs.declared.name.PoolName.TheVariants as pool
use Rattle.switch_core.specs.State.{fresh}
use Rattle.switch_core.specs.Step.{Step, handled, noticed, received, silent}
use Rattle.switch_core.specs.declared.state.State.{State}
use Rattle.topology.specs.Status.{start_of}
use Rattle.topology.specs.declared.network.Topology.{Topology}
use Rattle.event_world.specs.Events.{event_of, input_count, number_of, pool_name}
use Rattle.event_world.specs.Inputs.{effect, fails, tells}
use Rattle.event_world.specs.Mail.{Mail, Shared, mail_down, mail_out, mail_up, with_mail}
use Rattle.event_world.specs.declared.effect.Effect.{Effect}
use Rattle.event_world.specs.declared.event.Event.{Event}
use Rattle.event_world.specs.declared.event.Event.TheVariants as event

-- the shared part, and a state for each switch and for each controller
pub record Situation (C : Type 0) : Type 0 where
  pub shared : Shared
  pub switches : List State
  pub controllers : List C

-- ---- an actor's own step

-- what a switch becomes and sends at an item that it takes from a pool
abbrev pub switch_step : State → PoolName → Item → Step
switch_step state (pool.Ctl s) (item.Message message) = handled state message
switch_step state (pool.Pkt s p) (item.Packet packet) = received state p packet
switch_step state (pool.Note s) (item.Notice notice) = noticed state notice
switch_step state name item = silent state

-- the first item of a pool, with its number
abbrev pub first_item : PoolName → Shared → Option (ℕ × Item)
first_item name shared = option_and_then head_of (pool_of name shared.pools)

-- the item is the first one of a pool
abbrev pub IsFirst : PoolName → Item → Shared → Type 0
IsFirst name item shared = (number : ℕ) × (first_item name shared ≡ Some (number, item))

-- what a controller hears at an item that it takes from a pool
abbrev pub heard_by : PoolName → Item → Option UpItem
heard_by (pool.App c s) (item.Message message) = Some (heard.FromSwitch s message)
heard_by (pool.App c s) item.Gone = Some (heard.Gone s)
heard_by (pool.Admin c) (item.Policy deny) = Some (heard.Policy deny)
heard_by name item = None

-- what a controller hears at the first item of a pool
abbrev pub news_at : PoolName → Shared → Option UpItem
news_at name shared = option_and_then (λ head. heard_by name head.1) (first_item name shared)

-- ---- the shared part

-- the first item of a pool is taken
abbrev pub taken : PoolName → Shared → Shared
taken name shared = record shared { pools = changed name rest_of shared.pools }

-- mail is put into its pools
abbrev pub delivered : Mail → Shared → Shared
delivered mail shared = record shared { pools = with_mail mail shared.pools }

-- all that waits in these pools is thrown away
abbrev pub without_all : List PoolName → Named → Named
without_all names pools = fold (λ pools name. changed name flushed pools) pools names

-- an input does what it does: the status changes, then what waits in some pools is lost, then mail comes
abbrev pub affected : Effect → Shared → Shared
affected change shared = record shared { status = change.status; pools = with_mail change.mail (without_all change.flushes shared.pools) }

-- a host has received one packet more
abbrev pub received_by : ℕ → Shared → Shared
received_by host shared = record shared { received = changed_at host (λ count. count + 1) shared.received }

-- one event more, and so many inputs
abbrev pub counted : ℕ → Shared → Shared
counted inputs shared = record shared { events = shared.events + 1; inputs = shared.inputs + inputs }

-- what a switch sends comes to the pools
abbrev pub sent_by : Topology → ℕ → Step → Shared → Shared
sent_by topology s step shared = delivered (mail_up topology shared.status s step.up ++ mail_out topology shared.status s step.out) shared

-- ---- the start

-- each switch that has a controller joins it
abbrev pub first_joins : List (Option ℕ) → Mail
first_joins owners = filter_map (λ owner. option_map (λ c. tells owner.0 (Join 0)) owner.1) (enumerate_from 0 owners)

-- all is up, no host has received anything, nothing has happened; each switch that has a controller is to join it
abbrev pub start_shared : Topology → ℕ → Shared
start_shared topology controllers = record {
  status = start_of topology;
  pools = with_mail (first_joins topology.owner) (empty_pools topology.ports controllers (length topology.hosts));
  received = replicate (length topology.hosts) 0;
  events = 0;
  inputs = 0;
}

-- a switch starts with its presets in its table
abbrev pub switch_at_start : ℕ → ℕ → List Preset → State
switch_at_start number ports presets = record (fresh number ports) { table = map entry_of presets }

abbrev pub switches_at_start : List ℕ → List (List Preset) → List State
switches_at_start ports presets = map (λ switch. switch_at_start switch.0 switch.1.0 switch.1.1) (enumerate_from 0 (zip ports presets))

-- ---- what is enabled

-- the first item of the pool that an event takes from, with its number; an input takes from none
abbrev pub head_for : Shared → Event → Option (ℕ × Item)
head_for shared event = option_and_then (λ name. first_item name shared) (pool_name event)

-- the number of that item
abbrev pub head_number : Shared → Event → Option ℕ
head_number shared event = option_map (λ head. head.0) (head_for shared event)

module _ {C : Type 0} where
  -- An input can happen where the script has its line. An internal event can happen where its pool's first item has its number.
  abbrev pub IsEnabled : Setup C → Situation C → Event → Type 0
  IsEnabled setup world (event.In position) = position < length setup.script
  IsEnabled setup world internal = head_number world.shared internal ≡ Some (number_of internal)

  -- a world after one event more, and so many inputs
  abbrev pub counted_world : ℕ → Situation C → Situation C
  counted_world inputs world = record world { shared = counted inputs world.shared }

  -- ---- the next world, by the meanings of the controllers

  module _ (react : C → UpItem → Reaction C) where
    -- a switch has taken a step
    abbrev pub by_switch : Topology → ℕ → Step → Situation C → Situation C
    by_switch topology s step world = record world {
      shared = sent_by topology s step world.shared;
      switches = slice_set world.switches s step.state;
    }

    -- a controller has reacted
    abbrev pub by_controller : Topology → ℕ → Reaction C → Situation C → Situation C
    by_controller topology c reaction world = record world {
      shared = delivered (mail_down topology world.shared.status c reaction.sent) world.shared;
      controllers = slice_set world.controllers c reaction.state;
    }

    -- a switch takes an item from a pool
    abbrev pub at_switch : Topology → PoolName → Item → ℕ → Situation C → Situation C
    at_switch topology name item s world =
        option_map_or (λ state. by_switch topology s (switch_step state name item) world) (slice_get world.switches s) world

    -- a controller hears something
    abbrev pub at_controller : Topology → Option UpItem → ℕ → Situation C → Situation C
    at_controller topology None c world = world
    at_controller topology (Some item) c world =
        option_map_or (λ state. by_controller topology c (react state item) world) (slice_get world.controllers c) world

    -- the actor of the pool takes its step with an item of it
    abbrev pub acted : Topology → PoolName → Item → Situation C → Situation C
    acted topology (pool.Ctl s) item world = at_switch topology (pool.Ctl s) item s world
    acted topology (pool.Pkt s p) item world = at_switch topology (pool.Pkt s p) item s world
    acted topology (pool.Note s) item world = at_switch topology (pool.Note s) item s world
    acted topology (pool.App c s) item world = at_controller topology (heard_by (pool.App c s) item) c world
    acted topology (pool.Admin c) item world = at_controller topology (heard_by (pool.Admin c) item) c world
    acted topology (pool.Recv h) item world = record world { shared = received_by h world.shared }

    -- an item is taken from a pool, and its actor takes its step
    abbrev pub with_item : Topology → PoolName → Option (ℕ × Item) → Situation C → Situation C
    with_item topology name None world = world
    with_item topology name (Some head) world = acted topology name head.1 (record world { shared = taken name world.shared })

    -- an input is given: the shared part changes, and a switch that fails loses its state
    abbrev pub with_input : Topology → Input → Situation C → Situation C
    with_input topology input world = record world {
      shared = affected (effect topology world.shared.status input) world.shared;
      switches = option_map_or (λ s. slice_set world.switches s (fresh s (slice_index topology.ports s))) (fails world.shared.status input) world.switches;
    }

    -- the input of the line, if the script has it
    abbrev pub with_line : Topology → Option Line → Situation C → Situation C
    with_line topology None world = world
    with_line topology (Some line) world = with_input topology line.input world

    -- what an event does, but for the counts
    abbrev pub happened : Setup C → Situation C → Event → Situation C
    happened setup world (event.In position) = with_line setup.topology (slice_get setup.script position) world
    happened setup world internal =
        option_map_or (λ name. with_item setup.topology name (first_item name world.shared) world) (pool_name internal) world

    -- the world after an event that is enabled
    abbrev pub next : Setup C → Situation C → Event → Situation C
    next setup world event = counted_world (input_count event) (happened setup world event)

  -- the world with which a setup starts; each controller is in the state that it starts with
  abbrev pub start : (C → C) → Setup C → Situation C
  start first setup = record {
    shared = start_shared setup.topology (length setup.controllers);
    switches = switches_at_start setup.topology.ports setup.presets;
    controllers = map first setup.controllers;
  }

  -- the world after a list of events, from the start
  abbrev pub after_all : (C → UpItem → Reaction C) → (C → C) → Setup C → List Event → Situation C
  after_all react first setup events = fold (next react setup) (start first setup) events

-- the first internal event that is enabled, in the order of pools
abbrev pub first_event : Shared → Option Event
first_event shared = option_map (λ first. event_of first.0 first.1) (first_waiting shared.pools)
