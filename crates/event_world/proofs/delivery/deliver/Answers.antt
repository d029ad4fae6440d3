-- One item of mail is put.
use Rattle.std.proofs.Common.{◌≡◌, ◌∙◌, ◌+◌, ◌∷◌, length, ap, arith, subst, sym}
use Rattle.std.specs.Vec.Iter.{into_iter_items}
use Rattle.message_pools.specs.Queue.{with_last}
use Rattle.message_pools.specs.declared.item.Item.{Item}
use Rattle.pool_book.specs.Pools.{queues}
use Rattle.pool_book.specs.declared.name.PoolName.{PoolName}
use Rattle.event_world.specs.Mail.{with_mail}
use Rattle.event_world.specs.Room.{CanNumber, HasRoomForMail}
use Rattle.event_world.proofs.Rooms.{number_first, number_rest, room_rest}
use Rattle.event_world.proofs.delivery.deliver.Goals as goal

pub put-requires-clause-numbers : goal.put-requires-clause-numbers
put-requires-clause-numbers c =
    let rest = into_iter_items c.next.new.self in
    let long = ap length c.in-Some.ensures.steps.0 in
    let more : length (into_iter_items c.loop-name.name-iterator) ≡ length rest + 1 = omega arith in
    number_first c.in-Some.name (length rest) (queues c.loop-name.pools) (subst (λ n. CanNumber n (queues c.loop-name.pools)) more c.loop-name.invariant.numbers)

pub loop-name-preserved : goal.loop-name-preserved
loop-name-preserved c =
    let i = c.loop-name.invariant in
    let before = c.loop-name.pools in
    let one : PoolName × Item = (c.in-Some.name, c.in-Some.item) in
    let rest = into_iter_items c.next.new.self in
    let next : into_iter_items c.loop-name.name-iterator ≡ one ∷ rest = c.in-Some.ensures.steps.0 in
    let gone = c.in-Some.ensures.steps.1 in
    let long = ap length next in
    let more : length (into_iter_items c.loop-name.name-iterator) ≡ length rest + 1 = omega arith in
    let put = c.put.ensures.queues in
    record {
      left = omega arith;
      room = room_rest one rest (λ queue. with_last queue c.in-Some.item) before c.put.new.self (subst (λ mail. HasRoomForMail mail before) next i.room) put c.put.ensures.room;
      numbers = subst (CanNumber (length rest)) (sym put) (number_rest c.in-Some.name c.in-Some.item (length rest) (queues before) (subst (λ n. CanNumber n (queues before)) more i.numbers));
      queues = ap (with_mail rest) put ∙ sym (ap (λ mail. with_mail mail (queues before)) next) ∙ i.queues;
    }
