-- What is asked of a world, and what it answers.
use Rattle.std.specs.Prelude.{◌≡◌, ◌<◌, List, length, map, slice_get, Option, Some, None, option_map, is_none, if◌then◌else◌, ⊤, Bool, ◌&&◌, not}
use Rattle.std.specs.Option.{option_map_or}
use Rattle.machine_setup.specs.declared.script.Line.{Line}
use Rattle.machine_setup.specs.declared.setup.Setup.{Setup}
use Rattle.pool_book.specs.Pools.{Named, first_waiting, first_waiting_for}
use Rattle.pool_book.specs.declared.actor.Actor.{Actor}
use Rattle.pool_book.specs.declared.actor.Actor.TheVariants as actor
use Rattle.topology.specs.declared.network.Topology.{Topology}
use Rattle.event_world.specs.Events.{event_of}
use Rattle.event_world.specs.Mail.{Shared}
use Rattle.event_world.specs.World.{IsEnabled, Situation, head_number}
use Rattle.event_world.specs.declared.event.Event.{Event}
use Rattle.event_world.specs.declared.event.Event.TheVariants.{In}
use Rattle.event_world.specs.declared.net_state.NetState.{NetState}
use Rattle.event_world.specs.declared.world.StepNo.{StepNo}
use Rattle.event_world.specs.declared.world.StepNo.TheVariants.{NotEnabled, OutOfMemory}

-- the event is an input
abbrev pub IsInputEvent : Event → Type 0
IsInputEvent (In position) = ⊤
IsInputEvent internal = ⊥

-- whether nothing waits anywhere
abbrev pub is_quiet : Named → Bool
is_quiet pools = is_none (first_waiting pools)

-- the next line of a script, by the number of inputs so far, unless it is marked and something waits
abbrev pub next_line : List Line → Shared → Option Event
next_line script shared = option_map_or
    (λ line. if line.after_quiet && not (is_quiet shared.pools) then None else Some (In shared.inputs))
    (slice_get script shared.inputs) None

module _ {C : Type 0} where
  -- A refused event is not enabled, and the answer has the number of its pool's first item. Want of memory says nothing.
  abbrev pub IsRefusal : Setup C → Situation C → Event → StepNo → Type 0
  IsRefusal setup world event (NotEnabled head) = (¬ IsEnabled setup world event) × (head ≡ head_number world.shared event)
  IsRefusal setup world event OutOfMemory = ⊤

  -- the actor is one of the setup's
  abbrev pub IsActor : Setup C → Actor → Type 0
  IsActor setup actor.Script = ⊤
  IsActor setup (actor.Switch s) = s < length setup.topology.ports
  IsActor setup (actor.Controller c) = c < length setup.controllers
  IsActor setup (actor.Host h) = h < length setup.topology.hosts

  -- the first event of an actor: of the script its next line, of the others the first that takes from one of their pools
  abbrev pub first_event_of : Setup C → Shared → Actor → Option Event
  first_event_of setup shared actor.Script = next_line setup.script shared
  first_event_of setup shared who = option_map (λ first. event_of first.0 first.1) (first_waiting_for who shared.pools)

  -- the forwarding state of a world
  abbrev pub network_of : Topology → Situation C → NetState
  network_of topology world = record { topology = topology; status = world.shared.status; tables = map (λ switch. switch.table) world.switches }
