-- Events: which pool an event takes from, and which events an input is among.
use Rattle.std.specs.Prelude.{ℕ, Option, Some, None}
use Rattle.pool_book.specs.Names.{taker}
use Rattle.pool_book.specs.declared.actor.Actor.{Actor}
use Rattle.pool_book.specs.declared.actor.Actor.TheVariants.{Script}
use Rattle.pool_book.specs.declared.name.PoolName.{PoolName}
use Rattle.pool_book.specs.declared.name.PoolName.TheVariants as pool
use Rattle.event_world.specs.declared.event.Event.{Event}
use Rattle.event_world.specs.declared.event.Event.TheVariants.{In, Ctl, Pkt, Note, App, Admin, Recv}

-- the pool that an internal event takes from; an input takes from none
abbrev pub pool_name : Event → Option PoolName
pool_name (In position) = None
pool_name (Ctl s item) = Some (pool.Ctl s)
pool_name (Pkt s p item) = Some (pool.Pkt s p)
pool_name (Note s item) = Some (pool.Note s)
pool_name (App c s item) = Some (pool.App c s)
pool_name (Admin c item) = Some (pool.Admin c)
pool_name (Recv h item) = Some (pool.Recv h)

-- the event that takes the item of a number from a pool
abbrev pub event_of : PoolName → ℕ → Event
event_of (pool.Ctl s) item = Ctl s item
event_of (pool.Pkt s p) item = Pkt s p item
event_of (pool.Note s) item = Note s item
event_of (pool.App c s) item = App c s item
event_of (pool.Admin c) item = Admin c item
event_of (pool.Recv h) item = Recv h item

-- the number of the item that an internal event takes, and the position in the script of an input
abbrev pub number_of : Event → ℕ
number_of (In position) = position
number_of (Ctl s item) = item
number_of (Pkt s p item) = item
number_of (Note s item) = item
number_of (App c s item) = item
number_of (Admin c item) = item
number_of (Recv h item) = item

-- who takes the step: the script gives the inputs, and the others take from their pools
abbrev pub actor_of : Event → Actor
actor_of (In position) = Script
actor_of (Ctl s item) = taker (pool.Ctl s)
actor_of (Pkt s p item) = taker (pool.Pkt s p)
actor_of (Note s item) = taker (pool.Note s)
actor_of (App c s item) = taker (pool.App c s)
actor_of (Admin c item) = taker (pool.Admin c)
actor_of (Recv h item) = taker (pool.Recv h)

-- how many inputs an event counts for
abbrev pub input_count : Event → ℕ
input_count (In position) = 1
input_count event = 0
