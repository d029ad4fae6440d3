use Rattle.std.proofs.Common.{◌≡◌, length}
use Rattle.std.specs.Vec.Iter.{into_iter_items, into_iter_len}
use Rattle.pool_book.specs.Pools.{queues}
use Rattle.event_world.specs.Mail.{with_mail}
use Rattle.event_world.specs.Room.{CanNumber, HasRoomForMail}
use Rattle.event_world.proofs.delivery.deliver.Given as goal

-- the pools with the mail that is left put into them are those with all mail, and they have room for it
abbrev pub invariant-loop-name : goal.invariant-loop-name
invariant-loop-name l = record {
  left : into_iter_len l.name-iterator ≡ length (into_iter_items l.name-iterator);
  room : HasRoomForMail (into_iter_items l.name-iterator) l.pools;
  numbers : CanNumber (length (into_iter_items l.name-iterator)) (queues l.pools);
  queues : with_mail (into_iter_items l.name-iterator) (queues l.pools) ≡ with_mail l.fn.mail (queues l.fn.pools);
}
