use Rattle.std.proofs.Common.{◌≡◌, ◌∙◌, ◌<◌, true, length, slice_set, Some, ap, arith, refl, subst, sym}
use Rattle.std.specs.Prelude.{⊤, IsSome}
use Rattle.std.proofs.lemmas.Option.{MatchOption-at_some}
use Rattle.message_pools.specs.Queue.{next_number, with_last}
use Rattle.pool_book.specs.Places.{Found, waits}
use Rattle.pool_book.specs.Pools.{UsesRoom, changed, pool_of, queues, room_of}
use Rattle.pool_book.proofs.Finding.{found_pool, found_queue, found_within, touched_mark, touched_queues, touched_use, unchanged, within_flags}
use Rattle.pool_book.proofs.Waiting.{last_waits}
use Rattle.pool_book.proofs.pools.Pools.put.Goals as goal

pub put-requires-clause-room : goal.put-requires-clause-room
put-requires-clause-room c =
    let there = subst (λ pools. Found c.args.name pools (Some c.in-Some.number)) (sym c.self.view_is) c.in-Some.ensures in
    let pool = found_pool c.args.name c.self.inside.pools c.in-Some.number c.item_mut.result.now there c.item_mut.ensures.value in
    let some : IsSome (pool_of c.args.name c.self.inside.pools) = rw pool refl in
    let room : 0 < room_of c.args.name c.self.inside.pools = subst (λ pools. IsSome (pool_of c.args.name pools) → 0 < room_of c.args.name pools) (sym c.self.view_is) c.requires.room some in
    rw pool at room

pub put-requires-clause-numbers : goal.put-requires-clause-numbers
put-requires-clause-numbers c =
    let there = subst (λ pools. Found c.args.name pools (Some c.in-Some.number)) (sym c.self.view_is) c.in-Some.ensures in
    let queue = subst (λ pools. pool_of c.args.name (queues pools) ≡ Some c.item_mut.result.now.1.queue) c.self.view_is (found_queue c.args.name c.self.inside.pools c.in-Some.number c.item_mut.result.now there c.item_mut.ensures.value) in
    MatchOption-at_some ⊤ (λ queue. next_number queue < 9223372036854775808) c.item_mut.result.now.1.queue queue c.requires.numbers

pub insert-requires : goal.insert-requires
insert-requires c =
    let below = subst (λ pools. c.in-Some.number < length pools) (sym c.self.view_is) (found_within c.args.name c.args.self.now c.in-Some.number c.in-Some.ensures) in
    within_flags c.self.inside.layout c.self.inside.pools c.self.inside.waiting c.in-Some.number c.self.invariant below

pub invariant_of-self : goal.invariant_of-self
invariant_of-self c =
    touched_mark c.self.inside.layout c.self.inside.pools c.self.inside.waiting c.insert.new.self c.in-Some.number c.item_mut.result.now c.put.new.self true c.self.invariant c.item_mut.ensures.value
    (ap waits c.put.ensures.queue ∙ last_waits c.item_mut.result.now.1.queue c.args.item) c.insert.ensures

pub returns-in-Some-clause-queues : goal.returns-in-Some-clause-queues
returns-in-Some-clause-queues c =
    let there = subst (λ pools. Found c.args.name pools (Some c.in-Some.number)) (sym c.self.view_is) c.in-Some.ensures in
    touched_queues c.args.name (λ queue. with_last queue c.args.item) c.self.inside.pools c.in-Some.number c.item_mut.result.now c.put.new.self there c.item_mut.ensures.value c.put.ensures.queue
    ∙ ap (λ pools. changed c.args.name (λ queue. with_last queue c.args.item) (queues pools)) c.self.view_is

pub returns-in-Some-clause-room : goal.returns-in-Some-clause-room
returns-in-Some-clause-room c =
    let there = subst (λ pools. Found c.args.name pools (Some c.in-Some.number)) (sym c.self.view_is) c.in-Some.ensures in
    let after = slice_set c.self.inside.pools c.in-Some.number (c.item_mut.result.now.0, c.put.new.self) in
    subst (λ pools. UsesRoom c.args.name 1 pools after) c.self.view_is
    (touched_use c.args.name 1 c.self.inside.pools c.in-Some.number c.item_mut.result.now c.put.new.self there c.item_mut.ensures.value (omega arith))

pub returns-in_default-clause-queues : goal.returns-in_default-clause-queues
returns-in_default-clause-queues c = sym (unchanged c.args.name (λ queue. with_last queue c.args.item) c.args.self.now c.in_default.ensures)
