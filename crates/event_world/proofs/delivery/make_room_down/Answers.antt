-- Room for one message more.
use Rattle.std.proofs.Common.{◌≡◌, ◌∙◌, ◌+◌, ◌++◌, ◌∷◌, [], Some, None, subst, sym, take}
use Rattle.std.proofs.lemmas.List.{append-nil}
use Rattle.message_pools.specs.declared.item.Item.TheVariants as item
use Rattle.event_world.specs.Mail.{Mail, down_to, mail_down}
use Rattle.event_world.specs.Room.{HasRoomForMail}
use Rattle.event_world.proofs.Posted.{down_more}
use Rattle.event_world.proofs.Rooms.{room_push}
use Rattle.event_world.proofs.delivery.make_room_down.Goals as goal
use Rattle.event_world.proofs.delivery.make_room_down.Goals.{in-Some+in_ok-make_room, in_default}

pub loop-one-preserved : goal.loop-one-preserved
loop-one-preserved c =
    let topology = c.args.topology.now in
    let status = c.args.status.now in
    let inv = c.loop-one.invariant in
    let one = c.one-item.result in
    let so_far = mail_down topology status c.args.c (take c.loop-one.one-index c.args.sent.now) in
    elim c.match-down_to.branch [
      | in-Some+in_ok-make_room w ↦
          let made = w.in_ok-make_room.ensures in
          let to : down_to topology status c.args.c one.0 ≡ Some w.in-Some.name = sym c.down_to.ensures ∙ w.in-Some.is in
          let more = down_more topology status c.args.c c.args.sent.now c.loop-one.one-index one (Some w.in-Some.name) c.loop-one-test.true c.one-item.is to in
          rw w.pools-is (record {
            room = subst (λ (mail : Mail). HasRoomForMail mail w.make_room.new.self) (sym more)
                (room_push so_far (w.in-Some.name, item.Message one.1) c.loop-one.pools w.make_room.new.self inv.room made.queues made.room made.kept);
            queues = made.queues ∙ inv.queues;
          })
      | in_default w ↦
          let to : down_to topology status c.args.c one.0 ≡ None = sym c.down_to.ensures ∙ w.in_default.is in
          let more = down_more topology status c.args.c c.args.sent.now c.loop-one.one-index one None c.loop-one-test.true c.one-item.is to in
          rw w.pools-is (record {
            room = subst (λ (mail : Mail). HasRoomForMail mail c.loop-one.pools) (sym (more ∙ append-nil so_far)) inv.room;
            queues = inv.queues;
          })
    ]
