use Rattle.log_doc.proofs.WrittenEntries.{done_always, entry_reads}
use Rattle.log_doc.proofs.write_entry.write_entry.Goals as goal

pub returns-clause-reads : goal.returns-clause-reads
returns-clause-reads c = done_always c.write_event.result _ (entry_reads c.args.entry.now c.in_ok-taken.ensures.reads)
