use Rattle.std.proofs.Common.{◌≡◌, take}
use Rattle.pool_book.specs.Pools.{queues}
use Rattle.event_world.specs.Room.{KeepsRoom}
use Rattle.event_world.specs.World.{without_all}
use Rattle.event_world.proofs.delivery.flush_all.Given as goal

-- the pools so far are flushed, and no room is lost
abbrev pub invariant-loop-name : goal.invariant-loop-name
invariant-loop-name l = record {
  queues : queues l.pools ≡ without_all (take l.name-index l.names) (queues l.fn.pools);
  room : KeepsRoom l.fn.pools l.pools;
}
