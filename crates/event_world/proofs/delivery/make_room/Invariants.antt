use Rattle.std.proofs.Common.{◌≡◌, take}
use Rattle.pool_book.specs.Pools.{queues}
use Rattle.event_world.specs.Room.{HasRoomForMail}
use Rattle.event_world.proofs.delivery.make_room.Given as goal

-- there is room for the mail so far, and the queues are as they were
abbrev pub invariant-loop-one : goal.invariant-loop-one
invariant-loop-one l = record {
  room : HasRoomForMail (take l.one-index l.mail) l.pools;
  queues : queues l.pools ≡ queues l.fn.pools;
}
