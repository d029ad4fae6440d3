-- One message is put.
use Rattle.std.proofs.Common.{◌≡◌, ◌∙◌, ◌+◌, ◌∷◌, length, Some, ap, arith, subst, sym}
use Rattle.std.specs.Vec.Iter.{into_iter_items}
use Rattle.message_pools.specs.Queue.{with_last}
use Rattle.message_pools.specs.declared.item.Item.{Item}
use Rattle.message_pools.specs.declared.item.Item.TheVariants as item
use Rattle.pool_book.specs.Pools.{queues}
use Rattle.pool_book.specs.declared.name.PoolName.{PoolName}
use Rattle.event_world.specs.Mail.{Mail, mail_down, with_mail}
use Rattle.event_world.specs.Room.{CanNumber, HasRoomForMail}
use Rattle.event_world.proofs.Posted.{down_first}
use Rattle.event_world.proofs.Rooms.{number_first, number_rest, room_rest}
use Rattle.event_world.proofs.delivery.deliver_down.Goals as goal

pub put-requires-clause-numbers : goal.put-requires-clause-numbers
put-requires-clause-numbers c =
    let mail_of = mail_down c.args.topology.now c.args.status.now c.args.c in
    let name = c.in-Some-down_to.name in
    let items = into_iter_items c.loop-s.s-iterator in
    let rest = into_iter_items c.next.new.self in
    let first : mail_of items ≡ (name, item.Message c.in-Some.message) ∷ mail_of rest =
    down_first c.args.topology.now c.args.status.now c.args.c c.in-Some.s c.in-Some.message items rest (Some name) c.in-Some.ensures.steps.0 (sym c.down_to.ensures ∙ c.in-Some-down_to.is) in
    let long = ap length first in
    let more : length (mail_of items) ≡ length (mail_of rest) + 1 = omega arith in
    number_first name (length (mail_of rest)) (queues c.loop-s.pools) (subst (λ n. CanNumber n (queues c.loop-s.pools)) more c.loop-s.invariant.numbers)

pub loop-s-preserved-in-Some-down_to : goal.loop-s-preserved-in-Some-down_to
loop-s-preserved-in-Some-down_to c =
    let mail_of = mail_down c.args.topology.now c.args.status.now c.args.c in
    let i = c.loop-s.invariant in
    let name = c.in-Some-down_to.name in
    let message = item.Message c.in-Some.message in
    let before = c.loop-s.pools in
    let items = into_iter_items c.loop-s.s-iterator in
    let rest = into_iter_items c.next.new.self in
    let one : PoolName × Item = (name, message) in
    let first : mail_of items ≡ one ∷ mail_of rest =
    down_first c.args.topology.now c.args.status.now c.args.c c.in-Some.s c.in-Some.message items rest (Some name) c.in-Some.ensures.steps.0 (sym c.down_to.ensures ∙ c.in-Some-down_to.is) in
    let gone = c.in-Some.ensures.steps.1 in
    let fewer = ap length c.in-Some.ensures.steps.0 in
    let long = ap length first in
    let more : length (mail_of items) ≡ length (mail_of rest) + 1 = omega arith in
    let put = c.put.ensures.queues in
    record {
      left = omega arith;
      room = room_rest one (mail_of rest) (λ queue. with_last queue message) before c.put.new.self (subst (λ mail. HasRoomForMail mail before) first i.room) put c.put.ensures.room;
      numbers = subst (CanNumber (length (mail_of rest))) (sym put) (number_rest name message (length (mail_of rest)) (queues before) (subst (λ n. CanNumber n (queues before)) more i.numbers));
      queues = ap (with_mail (mail_of rest)) put ∙ sym (ap (λ (mail : Mail). with_mail mail (queues before)) first) ∙ i.queues;
    }
