use Rattle.std.proofs.Common.{ap, length, arith}
use Rattle.std.specs.Vec.Iter.{into_iter_items}
use Rattle.run_recorder.proofs.Growing.{comes_more}
use Rattle.run_recorder.proofs.at_once.back.Goals as goal

pub loop-stint-preserved : goal.loop-stint-preserved
loop-stint-preserved g c =
    let was = c.loop-stint.invariant in
    let next = c.in-Some.ensures.steps in
    let pushed = c.in_ok-push.ensures.items in
    record {
      length = let long = ap length next.0 in let fewer = next.1 in let same = was.length in omega arith;
      comes = comes_more c.args.stints.items (into_iter_items c.loop-stint.stint-iterator) (into_iter_items c.next.new.self) c.in-Some.stint c.loop-stint.parts.items c.push.new.self.items
          was.comes next.0 pushed (λ same. let never = rw same at c.if-eq.ensures in cc);
    }
