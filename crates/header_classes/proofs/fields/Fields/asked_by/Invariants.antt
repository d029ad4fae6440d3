-- So far no more fields were found than were looked at, and each of them is a field.
use Rattle.std.proofs.Common.{◌≡◌, ◌<◌, ◌≤◌, All, length}
use Rattle.header_classes.proofs.fields.Fields.asked_by.Given as goal

abbrev pub invariant-loop-field : goal.invariant-loop-field
invariant-loop-field l = record {
  few : l.many ≤ l.field;
  long : length l.fields ≡ 11;
  fit : All (λ field. field < 11) l.fields;
}
