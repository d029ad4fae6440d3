use Rattle.log_doc.proofs.WrittenItems.{item_reads}
use Rattle.log_doc.proofs.write_items.item_reads.Goals as goal

pub returns : goal.returns
returns c = item_reads c.message_reads_back.ensures c.record_reads_back.ensures.length c.record_reads_back.ensures.back
    c.match_reads_back.ensures.length c.match_reads_back.ensures.back c.args.item.now c.requires c.narrow_item.ensures
