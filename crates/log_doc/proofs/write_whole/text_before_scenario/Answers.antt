use Rattle.log_doc.proofs.write_whole.text_before_scenario.Goals as goal

pub returns-clause-reads : goal.returns-clause-reads
returns-clause-reads c = rw c.as_slice.ensures at (c.in_ok-write_entries.ensures {u = tt}).reads
