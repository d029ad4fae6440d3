-- What an entry of a run holds.
use Rattle.std.specs.Prelude.{◌≡◌, ℕ, ◌<◌, ◌^◌, List, length, Contains, Option, Some, None}
use Rattle.machine_setup.specs.declared.setup.Setup.{Setup}
use Rattle.message_pools.specs.declared.item.Item.{Item}
use Rattle.pool_book.specs.Names.{names}
use Rattle.pool_book.specs.declared.name.PoolName.{PoolName}
use Rattle.event_world.specs.Answers.{IsInputEvent}
use Rattle.event_world.specs.Events.{number_of, pool_name}
use Rattle.event_world.specs.Fits.{IsItemOf}
use Rattle.event_machine.specs.declared.trace.Entry.{Entry}

-- there is an item, and it may wait in the pool, by the numbers of ports of the switches
abbrev pub IsSomeItemOf : List ℕ → PoolName → Option Item → Type 0
IsSomeItemOf ports name None = ⊥
IsSomeItemOf ports name (Some item) = IsItemOf ports name item

-- An entry that a run of the setup can have: an input is a line of the script and took nothing; every other event took, from a pool
-- that the network has, an item that may wait there. Items are numbered below 2^63.
pub record IsEntryOf {C : Type 0} (setup : Setup C) (entry : Entry) : Type 0 where
  pub line : IsInputEvent entry.event → (entry.item ≡ None) × (number_of entry.event < length setup.script)
  pub pool : (name : PoolName) → pool_name entry.event ≡ Some name
      → Contains (names setup.topology.ports (length setup.controllers) (length setup.topology.hosts)) name × IsSomeItemOf setup.topology.ports name entry.item
  pub number : number_of entry.event < 2 ^ 63
