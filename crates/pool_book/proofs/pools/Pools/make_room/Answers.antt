use Rattle.std.proofs.Common.{◌∙◌, ◌<◌, length, slice_set, Some, ap, arith, subst, sym}
use Rattle.std.proofs.lemmas.Result.{on_ok_weaker}
use Rattle.pool_book.specs.Places.{Found, waits}
use Rattle.pool_book.specs.Pools.{HasRoomFor, queues}
use Rattle.pool_book.proofs.Finding.{found_within, pool_missing, same_queues, still_booked, touched_room}
use Rattle.pool_book.proofs.pools.Pools.make_room.Goals as goal

pub returns-in-None-clause-room : goal.returns-in-None-clause-room
returns-in-None-clause-room c = λ there. let none = pool_missing c.args.name c.args.self.now c.in-None.ensures in let never = rw none at there in absurd cc

pub item_mut-requires : goal.item_mut-requires
item_mut-requires c = subst (λ pools. c.in-Some.number < length pools) (sym c.self.view_is) (found_within c.args.name c.args.self.now c.in-Some.number c.in-Some.ensures)

pub invariant_of-self : goal.invariant_of-self
invariant_of-self c =
    still_booked c.self.inside.layout c.item_mut.result.now.0 c.self.inside.pools c.self.inside.waiting c.in-Some.number c.item_mut.result.now.1 c.reserve_one.new.self c.self.invariant c.item_mut.ensures.value
    (ap waits c.reserve_one.ensures.queue)

pub returns-in-Some-clause-room : goal.returns-in-Some-clause-room
returns-in-Some-clause-room c =
    let there = subst (λ pools. Found c.args.name pools (Some c.in-Some.number)) (sym c.self.view_is) c.in-Some.ensures in
    let after = slice_set c.self.inside.pools c.in-Some.number (c.item_mut.result.now.0, c.reserve_one.new.self) in
    on_ok_weaker c.reserve_one.result
    (λ enough _. subst (λ pools. HasRoomFor c.args.name 1 pools after) c.self.view_is
    (touched_room c.args.name 1 c.self.inside.pools c.in-Some.number c.item_mut.result.now c.reserve_one.new.self there c.item_mut.ensures.value enough))
    c.reserve_one.ensures.room

pub returns-in-Some-clause-kept : goal.returns-in-Some-clause-kept
returns-in-Some-clause-kept c =
    let there = subst (λ pools. Found c.args.name pools (Some c.in-Some.number)) (sym c.self.view_is) c.in-Some.ensures in
    let after = slice_set c.self.inside.pools c.in-Some.number (c.item_mut.result.now.0, c.reserve_one.new.self) in
    subst (λ pools. HasRoomFor c.args.name 0 pools after) c.self.view_is
    (touched_room c.args.name 0 c.self.inside.pools c.in-Some.number c.item_mut.result.now c.reserve_one.new.self there c.item_mut.ensures.value (omega arith))

pub returns-in-Some-clause-queues : goal.returns-in-Some-clause-queues
returns-in-Some-clause-queues c =
    same_queues c.item_mut.result.now.0 c.self.inside.pools c.in-Some.number c.item_mut.result.now.1 c.reserve_one.new.self c.item_mut.ensures.value c.reserve_one.ensures.queue ∙ ap queues c.self.view_is
