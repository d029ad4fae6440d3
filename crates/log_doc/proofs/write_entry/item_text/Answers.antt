use Rattle.std.proofs.Common.{◌∙◌}
use Rattle.log_doc.proofs.WrittenItems.{item_spelled}
use Rattle.log_doc.proofs.write_entry.item_text.Goals as goal

pub returns-clause-reads : goal.returns-clause-reads
returns-clause-reads c =
    item_spelled c.hex_text.result c.as_slice.result.now c.args.item.now (c.as_slice.ensures.value ∙ c.in_ok-bytes.ensures)
    c.hex_text.ensures.reads c.item_reads.ensures
