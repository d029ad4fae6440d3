use Rattle.std.proofs.Common.{◌≡◌, length}
use Rattle.turn_book.specs.Words.{IsSeatOf, view_of}
use Rattle.run_recorder.proofs.Dealing.{AreOthers}
use Rattle.run_recorder.specs.Parts.{IsUndealt}
use Rattle.run_recorder.specs.Recorder.{recorded}
use Rattle.run_recorder.proofs.recorder.Recorder.dealt.Given as goal

-- the parts of so many workers are dealt
abbrev pub invariant-loop-before : goal.invariant-loop-before
invariant-loop-before g l = record {
  count : length l.parts.items ≡ l.before;
  of : IsSeatOf (recorded l.self).book l.left;
  left : IsUndealt (recorded l.self) l.before (view_of l.left);
  others : AreOthers (recorded l.self) l.parts.items;
}
