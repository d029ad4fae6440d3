use Rattle.log_doc.proofs.WrittenItems.{taken_spelled}
use Rattle.log_doc.proofs.write_entry.taken_text.Goals as goal

pub returns-in-Some-clause-reads : goal.returns-in-Some-clause-reads
returns-in-Some-clause-reads c = taken_spelled c.item_text.result c.args.taken.now _ c.in-Some.is c.item_text.ensures.reads
