-- Mail still has room after an item is taken.
use Rattle.std.proofs.Common.{◌∙◌, length, ap, subst, sym}
use Rattle.message_pools.specs.Queue.{rest_of}
use Rattle.pool_book.specs.Pools.{changed, queues}
use Rattle.event_world.specs.Room.{CanNumber, HasRoomForMail}
use Rattle.event_world.proofs.Rooms.{next_of_rest, number_changed, room_changed}
use Rattle.event_world.proofs.shell.Shell.exchange.Goals as goal

pub deliver-requires-clause-room : goal.deliver-requires-clause-room
deliver-requires-clause-room c =
    let made = c.in_ok-make_room.ensures in
    room_changed c.args.name c.args.mail rest_of c.make_room.new.pools c.take.new.self (subst (λ mail. HasRoomForMail mail c.make_room.new.pools) c.as_slice.ensures made.room) c.take.ensures.queues c.take.ensures.room

pub deliver-requires-clause-numbers : goal.deliver-requires-clause-numbers
deliver-requires-clause-numbers c =
    let made = c.in_ok-make_room.ensures in
    subst (CanNumber (length c.args.mail)) (sym (c.take.ensures.queues ∙ ap (changed c.args.name rest_of) made.queues))
    (number_changed c.args.name (length c.args.mail) rest_of (queues c.args.self.now.pools) next_of_rest c.requires)
