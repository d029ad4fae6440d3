use Rattle.std.proofs.Common.{◌≡◌, ◌++◌, All, length, map}
use Rattle.std.specs.Vec.Iter.{into_iter_items, into_iter_len}
use Rattle.run_recorder.proofs.at_once.stints.Given as goal

abbrev pub invariant-loop-part : goal.invariant-loop-part
invariant-loop-part g l = record {
  length : into_iter_len l.part-iterator ≡ length (into_iter_items l.part-iterator);
  same : map (λ stint. stint.part) l.stints.items ++ into_iter_items l.part-iterator ≡ l.fn.parts.items;
  of : All (λ stint. stint.recorder.now ≡ l.recorder) l.stints.items;
}
