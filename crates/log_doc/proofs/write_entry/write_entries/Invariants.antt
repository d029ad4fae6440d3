use Rattle.std.proofs.Common.{◌≡◌, ◌++◌, take}
use Rattle.log_doc.specs.Tokens.{entries_tokens}
use Rattle.log_doc.proofs.WrittenEntries.{ReadSoFar}
use Rattle.log_doc.proofs.write_entry.write_entries.Given as goal

abbrev pub invariant-loop-entry : goal.invariant-loop-entry
invariant-loop-entry l = record {
  before : l.out.before ≡ l.initial.out.before;
  tokens : l.out.tokens ≡ l.initial.out.tokens ++ entries_tokens (take l.entry-index l.entries);
  reads : ReadSoFar l.entries l.entry-index;
}
