use Rattle.std.proofs.Common.{◌≡◌, length}
use Rattle.std.specs.Vec.Iter.{into_iter_items, into_iter_len}
use Rattle.run_recorder.proofs.Gathering.{Gathers}
use Rattle.run_recorder.specs.Recorder.{recorded}
use Rattle.run_recorder.proofs.recorder.Recorder.gathered.Given as goal

-- the seats of the first parts are joined, and those of the others are still to come
abbrev pub invariant-loop-part : goal.invariant-loop-part
invariant-loop-part g l = record {
  length : into_iter_len l.part-iterator ≡ length (into_iter_items l.part-iterator);
  gathers : Gathers (recorded l.self) l.fn.parts (into_iter_items l.part-iterator) l.seat;
}
