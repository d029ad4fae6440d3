use Rattle.std.proofs.Common.{◌≡◌, length}
use Rattle.std.specs.Vec.Iter.{into_iter_items, into_iter_len}
use Rattle.pool_book.specs.Pools.{queues}
use Rattle.event_world.specs.Mail.{mail_down, with_mail}
use Rattle.event_world.specs.Room.{CanNumber, HasRoomForMail}
use Rattle.event_world.proofs.delivery.deliver_down.Given as goal

-- the pools with the messages that are left put into them are those with all, and they have room for them
abbrev pub invariant-loop-s : goal.invariant-loop-s
invariant-loop-s l = record {
  left : into_iter_len l.s-iterator ≡ length (into_iter_items l.s-iterator);
  room : HasRoomForMail (mail_down l.topology l.status l.c (into_iter_items l.s-iterator)) l.pools;
  numbers : CanNumber (length (mail_down l.topology l.status l.c (into_iter_items l.s-iterator))) (queues l.pools);
  queues : with_mail (mail_down l.topology l.status l.c (into_iter_items l.s-iterator)) (queues l.pools)
      ≡ with_mail (mail_down l.topology l.status l.c l.fn.sent) (queues l.fn.pools);
}
