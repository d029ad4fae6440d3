-- Room for one item of mail more.
use Rattle.std.proofs.Common.{◌∙◌}
use Rattle.event_world.proofs.Rooms.{room_more}
use Rattle.event_world.proofs.delivery.make_room.Goals as goal

pub loop-one-preserved : goal.loop-one-preserved
loop-one-preserved c = let made = c.in_ok-make_room.ensures in record {
  room = room_more c.args.mail.now c.loop-one.one-index c.one-item.result c.loop-one.pools c.make_room.new.self c.loop-one-test.true c.one-item.is c.loop-one.invariant.room made.queues made.room made.kept;
  queues = made.queues ∙ c.loop-one.invariant.queues;
}
