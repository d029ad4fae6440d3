use Rattle.std.proofs.Common.{◌≡◌, ap, length, arith, refl}
use Rattle.std.specs.Vec.Iter.{into_iter_items}
use Rattle.run_recorder.specs.declared.at_once.Stint.{Stint}
use Rattle.run_recorder.proofs.Growing.{all_more, images_more}
use Rattle.run_recorder.proofs.at_once.stints.Goals as goal

pub loop-part-preserved : goal.loop-part-preserved
loop-part-preserved g c =
    let was = c.loop-part.invariant in
    let next = c.in-Some.ensures.steps in
    let pushed = c.in_ok-push.ensures.items in
    let stint : Stint g.row.C.Denot = record { recorder = c.args.recorder; part = c.in-Some.part; left = _ } in
    record {
      length = let long = ap length next.0 in let fewer = next.1 in let same = was.length in omega arith;
      same = images_more (λ (stint : Stint g.row.C.Denot). stint.part) c.loop-part.stints.items c.push.new.self.items stint
          (into_iter_items c.loop-part.part-iterator) (into_iter_items c.next.new.self) c.args.parts.items was.same next.0 pushed;
      of = all_more (λ (stint : Stint g.row.C.Denot). stint.recorder.now ≡ c.args.recorder.now) c.loop-part.stints.items c.push.new.self.items stint was.of refl pushed;
    }
