-- One message is put.
use Rattle.std.proofs.Common.{◌≡◌, ◌∙◌, ◌+◌, ◌≤◌, ◌∷◌, List, filter_map, length, Some, ap, arith, subst, sym}
use Rattle.std.specs.Prelude.{IsSome}
use Rattle.std.specs.Vec.Iter.{into_iter_items}
use Rattle.message_pools.specs.Queue.{with_last}
use Rattle.message_pools.specs.declared.item.Item.TheVariants as item
use Rattle.of10_messages.specs.declared.message.Message.{Message}
use Rattle.pool_book.specs.Pools.{pool_of, queues, room_of}
use Rattle.event_world.specs.Mail.{addressed, with_mail}
use Rattle.event_world.specs.Room.{CanNumber}
use Rattle.event_world.proofs.Rooms.{no_mail, number_first, number_rest, room_of_rest}
use Rattle.event_world.proofs.delivery.deliver_up.Goals as goal

pub put-requires-clause-numbers : goal.put-requires-clause-numbers
put-requires-clause-numbers c =
    let rest = into_iter_items c.next.new.self in
    let long = ap length c.in-Some-message.ensures.steps.0 in
    let more : length (into_iter_items c.loop-message.message-iterator) ≡ length rest + 1 = omega arith in
    number_first c.in-Some.name (length rest) (queues c.loop-message.pools) (subst (λ n. CanNumber n (queues c.loop-message.pools)) more c.loop-message.invariant.numbers)

pub loop-message-preserved : goal.loop-message-preserved
loop-message-preserved c =
    let i = c.loop-message.invariant in
    let name = c.in-Some.name in
    let before = c.loop-message.pools in
    let rest = into_iter_items c.next.new.self in
    let next : into_iter_items c.loop-message.message-iterator ≡ c.in-Some-message.message ∷ rest = c.in-Some-message.ensures.steps.0 in
    let gone = c.in-Some-message.ensures.steps.1 in
    let long = ap length next in
    let more : length (into_iter_items c.loop-message.message-iterator) ≡ length rest + 1 = omega arith in
    let put = c.put.ensures.queues in
    let mail_of = λ (messages : List Message). filter_map (λ (message : Message). addressed (Some name) (item.Message message)) messages in
    record {
      left = omega arith;
      room = room_of_rest name (length rest) (λ queue. with_last queue (item.Message c.in-Some-message.message)) before c.put.new.self
          (subst (λ n. IsSome (pool_of name before) → n ≤ room_of name before) more i.room) put c.put.ensures.room;
      numbers = subst (CanNumber (length rest)) (sym put) (number_rest name (item.Message c.in-Some-message.message) (length rest) (queues before) (subst (λ n. CanNumber n (queues before)) more i.numbers));
      queues = ap (with_mail (mail_of rest)) put ∙ sym (ap (λ messages. with_mail (mail_of messages) (queues before)) next) ∙ i.queues;
    }

pub returns-in_default : goal.returns-in_default
returns-in_default c = no_mail c.args.name c.args.up (queues c.args.pools.now) c.in_default.is
