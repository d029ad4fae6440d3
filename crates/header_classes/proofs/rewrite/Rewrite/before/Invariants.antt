-- So far the part has the headers that the sets bring into the cell by the fields so far.
use Rattle.std.proofs.Common.{◌≡◌, length}
use Rattle.header_classes.proofs.Rewrites.{Brings}
use Rattle.header_classes.proofs.rewrite.Rewrite.before.Given as goal

abbrev pub invariant-loop-field : goal.invariant-loop-field
invariant-loop-field l = record {
  brings : Brings l.self l.cell l.part l.field;
  long : length l.part ≡ 11;
}
