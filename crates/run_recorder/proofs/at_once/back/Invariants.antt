use Rattle.std.proofs.Common.{◌≡◌, length}
use Rattle.std.specs.Vec.Iter.{into_iter_items, into_iter_len}
use Rattle.run_recorder.proofs.Growing.{ComesBack}
use Rattle.run_recorder.proofs.at_once.back.Given as goal

-- the parts of the first stints came back
abbrev pub invariant-loop-stint : goal.invariant-loop-stint
invariant-loop-stint g l = record {
  length : into_iter_len l.stint-iterator ≡ length (into_iter_items l.stint-iterator);
  comes : ComesBack l.fn.stints.items (into_iter_items l.stint-iterator) l.parts.items;
}
