use Rattle.std.proofs.Common.{◌≡◌, length, subst, ap, ◌∙◌, arith, slice_index_or, remove}
use Rattle.std.specs.Vec.Iter.{into_iter_items}
use Rattle.run_recorder.proofs.Gathering.{Gathers, gathers_all, gathers_first, gathers_more, gathers_other}
use Rattle.run_recorder.specs.Recorder.{recorded}
use Rattle.run_recorder.proofs.recorder.Recorder.gathered.Goals as goal

pub loop-part-init : goal.loop-part-init
loop-part-init g c =
    let gives = c.into_iter-part-iterator.ensures.into_iter_gives in
    let first = c.remove.result in
    let items : c.into_vec-parts.result.items ≡ c.args.parts = c.into_vec-parts.ensures in
    record {
      length = let long = ap length gives.0 in let as_many = gives.1 in let ok = c.remove.new.self.ok.0 in omega arith;
      gathers = gathers_first (recorded c.args.self.now) c.args.parts c.requires.parts first (into_iter_items c.into_iter-part-iterator.result) c.into_seat-seat.result first.setup first.workers first.worker
          (c.remove.ensures.value ∙ ap (λ l. slice_index_or l 0 first) items) (gives.0 ∙ (c.remove.ensures.items ∙ ap (λ l. remove l 0) items)) c.into_seat-seat.ensures.known c.into_seat-seat.ensures.seat;
    }

pub join-seat-requires-clause-other : goal.join-seat-requires-clause-other
join-seat-requires-clause-other g c κs within =
    let part = c.in-Some.part in
    let before = subst (λ rest. Gathers (recorded c.args.self.now) c.args.parts rest c.loop-part.seat) c.in-Some.ensures.steps.0 c.loop-part.invariant.gathers in
    gathers_other (recorded c.args.self.now) c.args.parts c.requires.parts part (into_iter_items c.next.new.self) c.loop-part.seat c.into_seat.result part.setup part.workers part.worker
    before c.into_seat.ensures.known c.into_seat.ensures.seat

pub loop-part-preserved : goal.loop-part-preserved
loop-part-preserved g c =
    let part = c.in-Some.part in
    let next = c.in-Some.ensures.steps in
    let before = subst (λ rest. Gathers (recorded c.args.self.now) c.args.parts rest c.loop-part.seat) next.0 c.loop-part.invariant.gathers in
    record {
      length = let long = ap length next.0 in let fewer = next.1 in let was = c.loop-part.invariant.length in omega arith;
      gathers = gathers_more (recorded c.args.self.now) c.args.parts c.requires.parts part (into_iter_items c.next.new.self) c.loop-part.seat c.into_seat.result c.join-seat.result part.setup part.workers part.worker
          before c.into_seat.ensures.known c.into_seat.ensures.seat c.join-seat.ensures.of c.join-seat.ensures.joined c.join-seat.ensures.begins.0 c.join-seat.ensures.begins.1;
    }

pub returns-clause-gathered : goal.returns-clause-gathered
returns-clause-gathered g c =
    (gathers_all (recorded c.args.self.now) c.args.parts (into_iter_items c.loop-part.part-iterator) c.loop-part.seat
    (let none = c.in-None.ensures.steps.0 in let long = c.loop-part.invariant.length in omega arith) c.loop-part.invariant.gathers).0

pub returns-clause-working : goal.returns-clause-working
returns-clause-working g c =
    (gathers_all (recorded c.args.self.now) c.args.parts (into_iter_items c.loop-part.part-iterator) c.loop-part.seat
    (let none = c.in-None.ensures.steps.0 in let long = c.loop-part.invariant.length in omega arith) c.loop-part.invariant.gathers).1
