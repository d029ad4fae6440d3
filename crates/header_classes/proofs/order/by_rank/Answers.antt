-- One entry more is listed, and the list of all is sorted.
use Rattle.std.proofs.Common.{length, refl, sym, arith}
use Rattle.std.proofs.lemmas.Option.{slice_get_read}
use Rattle.header_classes.proofs.Orders.{every_more, ranked_more, sorted_order}
use Rattle.header_classes.proofs.order.by_rank.Goals as goal

pub loop-place-preserved : goal.loop-place-preserved
loop-place-preserved c =
    let entries = c.args.entries.now in
    let order = c.loop-place.order.items in
    let there = slice_get_read entries (length entries) c.loop-place.place c.index-entries-place.result refl c.loop-place-test.true c.index-entries-place.is in
    record {
      ranked = rw c.in_ok-push.ensures.items (ranked_more entries order _ c.loop-place.place c.index-entries-place.result there (sym c.rank.ensures) c.loop-place.invariant.ranked);
      every = rw c.in_ok-push.ensures.items (every_more order _ c.loop-place.place c.loop-place.invariant.every);
    }

pub returns : goal.returns
returns c =
    sorted_order c.args.entries.now c.loop-place.order.items c.sort_unstable.new.self.items c.loop-place.invariant.ranked
    (λ place below. c.loop-place.invariant.every place (omega arith)) c.sort_unstable.ensures.permutation c.sort_unstable.ensures.sorted
