-- Mail still has room after pools are flushed.
use Rattle.std.proofs.Common.{◌∙◌, length, ap, subst, sym}
use Rattle.pool_book.specs.Pools.{queues}
use Rattle.event_world.specs.Room.{CanNumber, HasRoomForMail}
use Rattle.event_world.specs.World.{without_all}
use Rattle.event_world.proofs.Rooms.{number_flushed, room_flushed}
use Rattle.event_world.proofs.shell.Shell.apply.Goals as goal

pub deliver-requires-clause-room : goal.deliver-requires-clause-room
deliver-requires-clause-room c =
    let made = c.in_ok-make_room.ensures in
    room_flushed c.as_slice-2.result.now c.args.change.mail c.make_room.new.pools c.flush_all.new.pools (subst (λ mail. HasRoomForMail mail c.make_room.new.pools) c.as_slice.ensures made.room) c.flush_all.ensures.queues c.flush_all.ensures.room

pub deliver-requires-clause-numbers : goal.deliver-requires-clause-numbers
deliver-requires-clause-numbers c =
    let made = c.in_ok-make_room.ensures in
    let names = c.as_slice-2.result.now in
    let mail = length c.args.change.mail in
    subst (CanNumber mail) (sym (c.flush_all.ensures.queues ∙ ap (without_all names) made.queues)) (number_flushed names mail (queues c.args.self.now.pools) c.requires)
