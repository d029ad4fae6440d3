use Rattle.std.proofs.Common.{◌∙◌, ◌++◌, ap}
use Rattle.log_doc.proofs.WrittenLogs.{written_reads, written_text, written_utf8}
use Rattle.log_doc.proofs.write_whole.write_log.Goals as goal

pub returns-clause-text : goal.returns-clause-text
returns-clause-text c =
    written_text c.args.log.now c.in_ok-text.text.items c.in_ok-scenario.scenario.items c.extend_from_slice.new.self.items
    c.extend_from_slice-2.new.self.items (c.in_ok-text.ensures {u = tt}).text (c.in_ok-scenario.ensures {u = tt}).text
    ((c.in_ok-extend_from_slice.ensures {u = tt}).items ∙ ap (λ s. c.in_ok-text.text.items ++ s) c.as_slice.ensures.value)
    (c.in_ok-extend_from_slice-2.ensures {u = tt}).items

pub returns-clause-reads_back : goal.returns-clause-reads_back
returns-clause-reads_back c =
    written_reads c.args.log.now c.extend_from_slice-2.new.self.items (returns-clause-text c)
    (written_utf8 c.in_ok-text.text.items c.in_ok-scenario.scenario.items c.extend_from_slice.new.self.items c.extend_from_slice-2.new.self.items
    (c.in_ok-text.ensures {u = tt}).utf8 (c.in_ok-scenario.ensures {u = tt}).utf8
    ((c.in_ok-extend_from_slice.ensures {u = tt}).items ∙ ap (λ s. c.in_ok-text.text.items ++ s) c.as_slice.ensures.value)
    (c.in_ok-extend_from_slice-2.ensures {u = tt}).items)
    (c.in_ok-scenario.ensures {u = tt}).readable (c.in_ok-scenario.ensures {u = tt}).flat (c.in_ok-scenario.ensures {u = tt}).reads
    (c.in_ok-text.ensures {u = tt}).reads
