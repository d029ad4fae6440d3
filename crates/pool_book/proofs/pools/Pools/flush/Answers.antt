use Rattle.std.proofs.Common.{◌∙◌, false, slice_set, Some, ap, arith, subst, sym}
use Rattle.message_pools.specs.Queue.{flushed}
use Rattle.pool_book.specs.Places.{Found}
use Rattle.pool_book.specs.Pools.{HasRoomFor, changed, queues}
use Rattle.pool_book.proofs.Finding.{touched_mark, touched_queues, touched_room, unchanged}
use Rattle.pool_book.proofs.Waiting.{no_item_waits}
use Rattle.pool_book.proofs.pools.Pools.flush.Goals as goal

pub invariant_of-self : goal.invariant_of-self
invariant_of-self c =
    touched_mark c.self.inside.layout c.self.inside.pools c.self.inside.waiting c.remove.new.self c.in-Some.number c.item_mut.result.now c.flush.new.self false c.self.invariant c.item_mut.ensures.value
    (no_item_waits c.flush.new.self.queue (ap (λ queue. queue.items) c.flush.ensures.queue)) c.remove.ensures

pub returns-in-Some-clause-queues : goal.returns-in-Some-clause-queues
returns-in-Some-clause-queues c =
    let there = subst (λ pools. Found c.args.name pools (Some c.in-Some.number)) (sym c.self.view_is) c.in-Some.ensures in
    touched_queues c.args.name flushed c.self.inside.pools c.in-Some.number c.item_mut.result.now c.flush.new.self there c.item_mut.ensures.value c.flush.ensures.queue
    ∙ ap (λ pools. changed c.args.name flushed (queues pools)) c.self.view_is

pub returns-in-Some-clause-room : goal.returns-in-Some-clause-room
returns-in-Some-clause-room c =
    let there = subst (λ pools. Found c.args.name pools (Some c.in-Some.number)) (sym c.self.view_is) c.in-Some.ensures in
    let after = slice_set c.self.inside.pools c.in-Some.number (c.item_mut.result.now.0, c.flush.new.self) in
    subst (λ pools. HasRoomFor c.args.name 0 pools after) c.self.view_is
    (touched_room c.args.name 0 c.self.inside.pools c.in-Some.number c.item_mut.result.now c.flush.new.self there c.item_mut.ensures.value (omega arith))

pub returns-in_default-clause-queues : goal.returns-in_default-clause-queues
returns-in_default-clause-queues c = sym (unchanged c.args.name flushed c.args.self.now c.in_default.ensures)
