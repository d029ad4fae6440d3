-- One more switch of the last round.
use Rattle.std.proofs.Common.{◌≡◌, ◌∙◌, ◌++◌, ◌<◌, ◌≤◌, ℕ, List, [], arith, get_or, length, subst, sym, ap}
use Rattle.std.proofs.lemmas.List.{get_or_default, length-take-le}
use Rattle.route_app.specs.Rounds.{after_round, found, newly_found}
use Rattle.route_app.specs.Ways.{AreWays, open_at, open_ways}
use Rattle.route_app.specs.declared.reach.WayIn.{WayIn}
use Rattle.route_app.proofs.Search.{before_kept, queue_more, round_more, turn_of}
use Rattle.route_app.proofs.rounds.run_round.Goals as goal

pub bounds-ways_in-from : goal.bounds-ways_in-from
bounds-ways_in-from c =
    let free = c.requires.room.0 in
    let most = c.requires.room.1 in
    let turn = turn_of (length c.args.row.now) c.args.start c.loop-at.at c.from.result c.args.queue.now c.loop-at.queue c.deref.result.now c.loop-at.auto.at c.loop-at-test.true (omega arith) c.loop-at.invariant.before
    c.requires.last c.from.ensures c.deref.ensures in
    let less = turn.0 in
    let size = c.requires.size in
    omega arith

pub visit_all-requires-clause-ways : goal.visit_all-requires-clause-ways
visit_all-requires-clause-ways c =
    let free = c.requires.room.0 in
    let most = c.requires.room.1 in
    let turn = turn_of (length c.args.row.now) c.args.start c.loop-at.at c.from.result c.args.queue.now c.loop-at.queue c.deref.result.now c.loop-at.auto.at c.loop-at-test.true (omega arith) c.loop-at.invariant.before
    c.requires.last c.from.ensures c.deref.ensures in
    let less : c.from.result < length c.args.ways_in.now = let below = turn.0 in let size = c.requires.size in omega arith in
    subst (λ (n : ℕ). AreWays n (length c.args.down.now) c.as_slice.result.now) (sym c.loop-at.invariant.size)
    (subst (λ (ws : List WayIn). AreWays (length c.args.row.now) (length c.args.down.now) ws) (sym (c.as_slice.ensures ∙ c.index-ways_in-from.is)) (c.requires.ways c.from.result c.index-ways_in-from.result less))

pub loop-at-preserved : goal.loop-at-preserved
loop-at-preserved c =
    let old = found c.args.queue.now in
    let at = c.loop-at.at in
    let free = c.requires.room.0 in
    let most = c.requires.room.1 in
    let enough : c.args.queue.now.len ≤ length c.args.queue.now.places = omega arith in
    let turn = turn_of (length c.args.row.now) c.args.start at c.from.result c.args.queue.now c.loop-at.queue c.deref.result.now c.loop-at.auto.at c.loop-at-test.true enough c.loop-at.invariant.before
    c.requires.last c.from.ensures c.deref.ensures in
    let less : c.from.result < length c.args.ways_in.now = let below = turn.0 in let size = c.requires.size in omega arith in
    let count : length old ≡ c.args.queue.now.len = length-take-le c.args.queue.now.len c.args.queue.now.places enough in
    let within : at < length old = omega (arith, c.loop-at-test.true) in
    let s_is : get_or c.deref.result.now at 0 ≡ get_or old at 0 = sym c.from.ensures ∙ turn.1 in
    let ways_is : c.as_slice.result.now ≡ get_or c.args.ways_in.now (get_or old at 0) [] =
    c.as_slice.ensures ∙ c.index-ways_in-from.is ∙ get_or_default c.args.ways_in.now c.from.result c.index-ways_in-from.result [] less ∙ ap (λ (k : ℕ). get_or c.args.ways_in.now k []) turn.1 in
    let ways_are : open_ways c.args.down.now (get_or c.deref.result.now at 0) c.as_slice.result.now ≡ open_at c.args.ways_in.now c.args.down.now (get_or old at 0) =
    ap (λ (k : ℕ). open_ways c.args.down.now k c.as_slice.result.now) s_is ∙ ap (open_ways c.args.down.now (get_or old at 0)) ways_is in
    let row_is : c.visit_all.new.row ≡ after_round c.args.round (open_at c.args.ways_in.now c.args.down.now (get_or old at 0)) c.loop-at.row =
    c.visit_all.ensures.row ∙ ap (λ xs. after_round c.args.round xs c.loop-at.row) ways_are in
    let added : found c.visit_all.new.queue ≡ found c.loop-at.queue ++ newly_found c.args.round (open_at c.args.ways_in.now c.args.down.now (get_or old at 0)) c.loop-at.row =
    c.visit_all.ensures.found ∙ ap (λ xs. found c.loop-at.queue ++ newly_found c.args.round xs c.loop-at.row) ways_are in
    record {
      rest = round_more c.args.round at c.args.ways_in.now c.args.down.now old c.loop-at.row c.visit_all.new.row _ within row_is c.loop-at.invariant.rest;
      queue = queue_more c.args.round at c.args.ways_in.now c.args.down.now old c.loop-at.row c.visit_all.new.row (found c.loop-at.queue) (found c.visit_all.new.queue) _ within row_is added c.loop-at.invariant.queue;
      before = before_kept c.args.queue.now.len old (found c.loop-at.queue) (found c.visit_all.new.queue) _ count c.loop-at.invariant.before added;
      size = c.visit_all.ensures.length ∙ c.loop-at.invariant.size;
      room = c.visit_all.ensures.room;
      places = c.visit_all.ensures.places ∙ c.loop-at.invariant.places;
    }
