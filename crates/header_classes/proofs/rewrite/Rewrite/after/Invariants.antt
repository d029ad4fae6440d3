-- So far the cell has the headers of the other one after the sets, as far as the fields so far tell.
use Rattle.std.proofs.Common.{◌≡◌, true, length, take}
use Rattle.of10_match.specs.declared.header.Header.{Header}
use Rattle.header_classes.specs.Cell.{each_within, fields, in_cell}
use Rattle.header_classes.specs.Rewrite.{rewritten}
use Rattle.header_classes.proofs.rewrite.Rewrite.after.Given as goal

abbrev pub invariant-loop-field : goal.invariant-loop-field
invariant-loop-field l = record {
  put : (h : Header) → in_cell l.cell h ≡ true → each_within (take l.field l.made) (fields (rewritten l.self h)) ≡ true;
  long : length l.made ≡ 11;
}
