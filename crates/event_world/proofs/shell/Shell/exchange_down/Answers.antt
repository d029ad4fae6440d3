-- What is sent still has room after an item is taken.
use Rattle.std.proofs.Common.{length, subst, sym}
use Rattle.message_pools.specs.Queue.{rest_of}
use Rattle.pool_book.specs.Pools.{queues}
use Rattle.event_world.specs.Mail.{mail_down}
use Rattle.event_world.specs.Room.{CanNumber}
use Rattle.event_world.proofs.Rooms.{next_of_rest, number_changed, room_changed}
use Rattle.event_world.proofs.shell.Shell.exchange_down.Goals as goal

pub deliver_down-requires-clause-room : goal.deliver_down-requires-clause-room
deliver_down-requires-clause-room c =
    room_changed c.args.name (mail_down c.args.topology.now c.args.self.now.status c.args.c c.args.sent) rest_of c.args.self.now.pools c.take.new.self c.requires.room c.take.ensures.queues c.take.ensures.room

pub deliver_down-requires-clause-numbers : goal.deliver_down-requires-clause-numbers
deliver_down-requires-clause-numbers c =
    let more = length (mail_down c.args.topology.now c.args.self.now.status c.args.c c.args.sent) in
    subst (CanNumber more) (sym c.take.ensures.queues) (number_changed c.args.name more rest_of (queues c.args.self.now.pools) next_of_rest c.requires.numbers)
