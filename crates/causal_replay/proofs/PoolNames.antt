-- Each world to which a setup leads has the pools of its network.
use Rattle.std.proofs.Common.{◌≡◌, ◌∙◌, ℕ, List, [], ◌∷◌, ◌++◌, length, map, slice_get, Option, Some, None, refl}
use Rattle.std.specs.Option.{option_map_or}
use Rattle.std.proofs.lemmas.List.{map-id}
use Rattle.controller_api.specs.Reaction.{Reaction}
use Rattle.controller_api.specs.declared.item.UpItem.{UpItem}
use Rattle.machine_setup.specs.declared.script.Line.{Line}
use Rattle.machine_setup.specs.declared.setup.Setup.{Setup}
use Rattle.message_pools.specs.Queue.{Queue, empty_queue, rest_of}
use Rattle.message_pools.specs.declared.item.Item.{Item}
use Rattle.pool_book.specs.Change.{names_kept}
use Rattle.pool_book.specs.Names.{names}
use Rattle.pool_book.specs.Pools.{empty_pools}
use Rattle.pool_book.specs.declared.name.PoolName.{PoolName}
use Rattle.pool_book.specs.declared.name.PoolName.TheVariants as pool
use Rattle.switch_core.specs.Step.{Step}
use Rattle.topology.specs.declared.network.Topology.{Topology}
use Rattle.event_world.specs.Inputs.{effect}
use Rattle.event_world.specs.Mail.{mail_down, mail_out, mail_up}
use Rattle.event_world.specs.World.{Situation, acted, at_controller, at_switch, first_item, first_joins, heard_by, next, start, switch_step, taken, with_item, with_line, without_all}
use Rattle.event_world.specs.declared.event.Event.{Event}
use Rattle.event_world.specs.declared.event.Event.TheVariants as event
use Rattle.event_world.proofs.Delivered.{names_with_mail}
use Rattle.event_world.proofs.Flushed.{names_without}
use Rattle.event_machine.proofs.FirstEvents.{HasPools}
use Rattle.causal_replay.specs.Replay.{after}
use Rattle.causal_replay.proofs.Through.{map_twice}

module _ {C : Type 0} (react : C → UpItem → Reaction C) where
  -- ---- an event keeps the names of pools

  -- the names of a world's pools, in order
  abbrev pool_names : Situation C → List PoolName
  pool_names world = map (λ (pool : PoolName × Queue). pool.0) world.shared.pools

  -- what is done where something is found, and keeps the names, keeps them where nothing is found too
  found_names : {A : Type 0} (does : A → Situation C) (world : Situation C) (found : Option A) → ((x : A) → pool_names (does x) ≡ pool_names world) → pool_names (option_map_or does found world) ≡ pool_names world
  found_names does world None stays = refl
  found_names does world (Some x) stays = stays x

  switch_names : (topology : Topology) (name : PoolName) (item : Item) (s : ℕ) (world : Situation C) → pool_names (at_switch react topology name item s world) ≡ pool_names world
  switch_names topology name item s world = found_names _ world (slice_get world.switches s) (λ state.
      let step : Step = switch_step state name item in
      names_with_mail (mail_up topology world.shared.status s step.up ++ mail_out topology world.shared.status s step.out) world.shared.pools)

  controller_names : (topology : Topology) (item : Option UpItem) (c : ℕ) (world : Situation C) → pool_names (at_controller react topology item c world) ≡ pool_names world
  controller_names topology None c world = refl
  controller_names topology (Some item) c world = found_names _ world (slice_get world.controllers c) (λ state. names_with_mail (mail_down topology world.shared.status c (react state item).sent) world.shared.pools)

  acted_names : (topology : Topology) (name : PoolName) (item : Item) (world : Situation C) → pool_names (acted react topology name item world) ≡ pool_names world
  acted_names topology (pool.Ctl s) item world = switch_names topology (pool.Ctl s) item s world
  acted_names topology (pool.Pkt s p) item world = switch_names topology (pool.Pkt s p) item s world
  acted_names topology (pool.Note s) item world = switch_names topology (pool.Note s) item s world
  acted_names topology (pool.App c s) item world = controller_names topology (heard_by (pool.App c s) item) c world
  acted_names topology (pool.Admin c) item world = controller_names topology (heard_by (pool.Admin c) item) c world
  acted_names topology (pool.Recv h) item world = refl

  item_names : (topology : Topology) (name : PoolName) (head : Option (ℕ × Item)) (world : Situation C) → pool_names (with_item react topology name head world) ≡ pool_names world
  item_names topology name None world = refl
  item_names topology name (Some head) world = acted_names topology name head.1 (record world { shared = taken name world.shared }) ∙ names_kept name rest_of world.shared.pools

  line_names : (topology : Topology) (line : Option Line) (world : Situation C) → pool_names (with_line react topology line world) ≡ pool_names world
  line_names topology None world = refl
  line_names topology (Some line) world =
      let change = effect topology world.shared.status line.input in
      names_with_mail change.mail (without_all change.flushes world.shared.pools) ∙ names_without change.flushes world.shared.pools

  next_names : (setup : Setup C) (world : Situation C) (event : Event) → pool_names (next react setup world event) ≡ pool_names world
  next_names setup world (event.In position) = line_names setup.topology (slice_get setup.script position) world
  next_names setup world (event.Ctl s item) = item_names setup.topology (pool.Ctl s) (first_item (pool.Ctl s) world.shared) world
  next_names setup world (event.Pkt s p item) = item_names setup.topology (pool.Pkt s p) (first_item (pool.Pkt s p) world.shared) world
  next_names setup world (event.Note s item) = item_names setup.topology (pool.Note s) (first_item (pool.Note s) world.shared) world
  next_names setup world (event.App c s item) = item_names setup.topology (pool.App c s) (first_item (pool.App c s) world.shared) world
  next_names setup world (event.Admin c item) = item_names setup.topology (pool.Admin c) (first_item (pool.Admin c) world.shared) world
  next_names setup world (event.Recv h item) = item_names setup.topology (pool.Recv h) (first_item (pool.Recv h) world.shared) world

  -- ---- worlds of a setup

  -- events leave a world the pools of its network
  pub pools_after : (setup : Setup C) (world : Situation C) (events : List Event) → HasPools setup world → HasPools setup (after react setup world events)
  pools_after setup world [] all = all
  pools_after setup world (event ∷ events) all = pools_after setup (next react setup world event) events (next_names setup world event ∙ all)

-- the world with which a setup starts has them
pub pools_at_start : {C : Type 0} (first : C → C) (setup : Setup C) → HasPools setup (start first setup)
pools_at_start first setup =
    let all : List PoolName = names setup.topology.ports (length setup.controllers) (length setup.topology.hosts) in
    names_with_mail (first_joins setup.topology.owner) (empty_pools setup.topology.ports (length setup.controllers) (length setup.topology.hosts))
    ∙ (map_twice (λ (pool : PoolName × Queue). pool.0) (λ (name : PoolName). (name, empty_queue)) all ∙ map-id all)
