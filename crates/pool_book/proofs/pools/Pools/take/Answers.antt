use Rattle.std.proofs.Common.{◌≡◌, ◌∙◌, ◌<◌, false, length, slice_set, Some, ap, arith, rules, subst, sym}
use Rattle.std.specs.Prelude.{option_and_then}
use Rattle.message_pools.specs.Queue.{head_of, rest_of}
use Rattle.pool_book.specs.Places.{Found}
use Rattle.pool_book.specs.Pools.{HasRoomFor, changed, pool_of, queues}
use Rattle.pool_book.proofs.Finding.{found_queue, found_within, missing_queue, still_booked, touched_mark, touched_queues, touched_room, unchanged, within_flags}
use Rattle.pool_book.proofs.Waiting.{no_item_waits, rest_still_waits}
use Rattle.pool_book.proofs.pools.Pools.take.Goals as goal

pub returns-in_err-number-clause-item : goal.returns-in_err-number-clause-item
returns-in_err-number-clause-item c =
    c.from_residual.ensures ∙ sym (ap (option_and_then head_of) (missing_queue c.args.name c.args.self.now c.in_err-number.ensures))

pub returns-in_err-number-clause-queues : goal.returns-in_err-number-clause-queues
returns-in_err-number-clause-queues c = sym (unchanged c.args.name rest_of c.args.self.now c.in_err-number.ensures)

pub item_mut-requires : goal.item_mut-requires
item_mut-requires c = subst (λ pools. c.in_ok-number.number < length pools) (sym c.self.view_is) (found_within c.args.name c.args.self.now c.in_ok-number.number c.in_ok-number.ensures)

pub remove-requires : goal.remove-requires
remove-requires c =
    let below = subst (λ pools. c.in_ok-number.number < length pools) (sym c.self.view_is) (found_within c.args.name c.args.self.now c.in_ok-number.number c.in_ok-number.ensures) in
    within_flags c.self.inside.layout c.self.inside.pools c.self.inside.waiting c.in_ok-number.number c.self.invariant below

pub invariant_of-self : goal.invariant_of-self
invariant_of-self c =
    touched_mark c.self.inside.layout c.self.inside.pools c.self.inside.waiting c.remove.new.self c.in_ok-number.number c.item_mut.result.now c.take-taken.new.self false c.self.invariant c.item_mut.ensures.value
    (no_item_waits c.take-taken.new.self.queue (c.is_empty.ensures.0 (search rules))) c.remove.ensures

pub invariant_of-self-else-is_empty : goal.invariant_of-self-else-is_empty
invariant_of-self-else-is_empty c =
    still_booked c.self.inside.layout c.item_mut.result.now.0 c.self.inside.pools c.self.inside.waiting c.in_ok-number.number c.item_mut.result.now.1 c.take-taken.new.self c.self.invariant c.item_mut.ensures.value
    (rest_still_waits c.item_mut.result.now.1.queue c.take-taken.new.self.queue c.take-taken.ensures.rest (λ none. let empty = c.is_empty.ensures.1 none in search rules))

pub returns-then-is_empty-clause-item : goal.returns-then-is_empty-clause-item
returns-then-is_empty-clause-item c =
    let there = subst (λ pools. Found c.args.name pools (Some c.in_ok-number.number)) (sym c.self.view_is) c.in_ok-number.ensures in
    c.take-taken.ensures.item ∙ sym (ap (option_and_then head_of) (subst (λ pools. pool_of c.args.name (queues pools) ≡ Some c.item_mut.result.now.1.queue) c.self.view_is (found_queue c.args.name c.self.inside.pools c.in_ok-number.number c.item_mut.result.now there c.item_mut.ensures.value)))

pub returns-then-is_empty-clause-queues : goal.returns-then-is_empty-clause-queues
returns-then-is_empty-clause-queues c =
    let there = subst (λ pools. Found c.args.name pools (Some c.in_ok-number.number)) (sym c.self.view_is) c.in_ok-number.ensures in
    touched_queues c.args.name rest_of c.self.inside.pools c.in_ok-number.number c.item_mut.result.now c.take-taken.new.self there c.item_mut.ensures.value c.take-taken.ensures.rest
    ∙ ap (λ pools. changed c.args.name rest_of (queues pools)) c.self.view_is

pub returns-then-is_empty-clause-room : goal.returns-then-is_empty-clause-room
returns-then-is_empty-clause-room c =
    let there = subst (λ pools. Found c.args.name pools (Some c.in_ok-number.number)) (sym c.self.view_is) c.in_ok-number.ensures in
    let after = slice_set c.self.inside.pools c.in_ok-number.number (c.item_mut.result.now.0, c.take-taken.new.self) in
    subst (λ pools. HasRoomFor c.args.name 0 pools after) c.self.view_is
    (touched_room c.args.name 0 c.self.inside.pools c.in_ok-number.number c.item_mut.result.now c.take-taken.new.self there c.item_mut.ensures.value (omega arith))

pub returns-else-is_empty-clause-item : goal.returns-else-is_empty-clause-item
returns-else-is_empty-clause-item c =
    let there = subst (λ pools. Found c.args.name pools (Some c.in_ok-number.number)) (sym c.self.view_is) c.in_ok-number.ensures in
    c.take-taken.ensures.item ∙ sym (ap (option_and_then head_of) (subst (λ pools. pool_of c.args.name (queues pools) ≡ Some c.item_mut.result.now.1.queue) c.self.view_is (found_queue c.args.name c.self.inside.pools c.in_ok-number.number c.item_mut.result.now there c.item_mut.ensures.value)))

pub returns-else-is_empty-clause-queues : goal.returns-else-is_empty-clause-queues
returns-else-is_empty-clause-queues c =
    let there = subst (λ pools. Found c.args.name pools (Some c.in_ok-number.number)) (sym c.self.view_is) c.in_ok-number.ensures in
    touched_queues c.args.name rest_of c.self.inside.pools c.in_ok-number.number c.item_mut.result.now c.take-taken.new.self there c.item_mut.ensures.value c.take-taken.ensures.rest
    ∙ ap (λ pools. changed c.args.name rest_of (queues pools)) c.self.view_is

pub returns-else-is_empty-clause-room : goal.returns-else-is_empty-clause-room
returns-else-is_empty-clause-room c =
    let there = subst (λ pools. Found c.args.name pools (Some c.in_ok-number.number)) (sym c.self.view_is) c.in_ok-number.ensures in
    let after = slice_set c.self.inside.pools c.in_ok-number.number (c.item_mut.result.now.0, c.take-taken.new.self) in
    subst (λ pools. HasRoomFor c.args.name 0 pools after) c.self.view_is
    (touched_room c.args.name 0 c.self.inside.pools c.in_ok-number.number c.item_mut.result.now c.take-taken.new.self there c.item_mut.ensures.value (omega arith))
