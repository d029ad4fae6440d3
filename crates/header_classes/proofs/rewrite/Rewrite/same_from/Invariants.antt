-- So far the part has the headers that become the same by the fields so far.
use Rattle.std.proofs.Common.{◌≡◌, length}
use Rattle.header_classes.proofs.Rewrites.{SameUpTo}
use Rattle.header_classes.proofs.rewrite.Rewrite.same_from.Given as goal

abbrev pub invariant-loop-field : goal.invariant-loop-field
invariant-loop-field l = record {
  same : SameUpTo l.self l.other l.part l.field;
  long : length l.part ≡ 11;
}
