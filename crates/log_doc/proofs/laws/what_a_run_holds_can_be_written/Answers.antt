use Rattle.log_doc.proofs.Holding.{has_valid, writable}
use Rattle.log_doc.proofs.laws.what_a_run_holds_can_be_written.Goals as goal

pub returns-clause-entries : goal.returns-clause-entries
returns-clause-entries g c = writable

pub returns-clause-items : goal.returns-clause-items
returns-clause-items g c = has_valid
