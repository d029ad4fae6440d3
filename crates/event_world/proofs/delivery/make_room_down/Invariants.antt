use Rattle.std.proofs.Common.{◌≡◌, take}
use Rattle.pool_book.specs.Pools.{queues}
use Rattle.event_world.specs.Mail.{mail_down}
use Rattle.event_world.specs.Room.{HasRoomForMail}
use Rattle.event_world.proofs.delivery.make_room_down.Given as goal

-- there is room for what is sent so far, and the queues are as they were
abbrev pub invariant-loop-one : goal.invariant-loop-one
invariant-loop-one l = record {
  room : HasRoomForMail (mail_down l.topology l.status l.c (take l.one-index l.sent)) l.pools;
  queues : queues l.pools ≡ queues l.fn.pools;
}
