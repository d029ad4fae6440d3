use Rattle.std.proofs.Common.{◌∙◌, ◌++◌, ap, arith}
use Rattle.std.proofs.lemmas.List.{take_all}
use Rattle.log_doc.specs.Tokens.{entries_tokens}
use Rattle.log_doc.proofs.WrittenEntries.{all_read_back, done_always, list_done, one_more_read, one_more_written}
use Rattle.log_doc.proofs.write_entry.write_entries.Goals as goal

pub loop-entry-preserved : goal.loop-entry-preserved
loop-entry-preserved c = record {
  before = c.write_entry.ensures.before ∙ c.loop-entry.invariant.before;
  tokens = one_more_written c.args.entries.now c.loop-entry.entry-index c.entry-item.result c.begin_array.new.self.tokens c.loop-entry.out.tokens
      c.write_entry.new.out.tokens (omega arith) c.entry-item.is c.loop-entry.invariant.tokens (c.in_ok-write_entry.ensures {u = tt}).tokens;
  reads = one_more_read c.args.entries.now c.loop-entry.entry-index c.entry-item.result c.entry-item.is c.loop-entry.invariant.reads
      (c.in_ok-write_entry.ensures {u = tt}).reads;
}

pub returns-clause-tokens : goal.returns-clause-tokens
returns-clause-tokens c =
    list_done c.end_array.result c.args.entries.now c.args.out.now.tokens c.begin_array.new.self.tokens c.loop-entry.out.tokens c.end_array.new.self.tokens
    (c.in_ok-begin_array.ensures {u = tt}).ok
    (c.loop-entry.invariant.tokens ∙ ap (λ xs. c.begin_array.new.self.tokens ++ entries_tokens xs) (take_all c.loop-entry.entry-index c.args.entries.now (omega arith)))
    c.end_array.ensures.ok

pub returns-clause-reads : goal.returns-clause-reads
returns-clause-reads c =
    done_always c.end_array.result _ (all_read_back c.args.entries.now c.loop-entry.entry-index (omega arith) c.loop-entry.invariant.reads)
