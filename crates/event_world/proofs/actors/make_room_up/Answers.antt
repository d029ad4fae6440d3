-- Room is made in the pool that is named.
use Rattle.std.proofs.Common.{Option, sym, subst}
use Rattle.pool_book.specs.declared.name.PoolName.{PoolName}
use Rattle.event_world.specs.Room.{HasRoomUp}
use Rattle.event_world.proofs.Steps.{room_made}
use Rattle.event_world.proofs.actors.make_room_up.Goals as goal

pub returns-in_ok-make_room_for-clause-room : goal.returns-in_ok-make_room_for-clause-room
returns-in_ok-make_room_for-clause-room c =
    subst (λ (up : Option PoolName). HasRoomUp up c.args.most c.make_room_for.new.self) (sym c.in-Some.is)
    (room_made c.in-Some.app c.args.most c.args.pools.now c.make_room_for.new.self c.in_ok-make_room_for.ensures.queues c.in_ok-make_room_for.ensures.room)
