use Rattle.std.proofs.Common.{arith}
use Rattle.log_doc.proofs.WrittenItems.{always, hex_reads}
use Rattle.log_doc.proofs.write_entry.hex_text.Goals as goal

pub returns-clause-reads : goal.returns-clause-reads
returns-clause-reads c = always c.encode.result _ (hex_reads c.args.bytes.now (λ i. let f = c.type_inv.bytes i in omega arith))
