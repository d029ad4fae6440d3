use Rattle.std.proofs.lemmas.List.Elements.{All-weaker}
use Rattle.event_machine.specs.Holding.{IsEntryOf}
use Rattle.log_doc.specs.Written.{HasValidItem}
use Rattle.log_doc.proofs.Holding.{has_valid, run_few, run_writable}
use Rattle.log_doc.proofs.laws.a_legal_run_can_be_written.Goals as goal

pub returns-clause-few : goal.returns-clause-few
returns-clause-few g c = run_few g.C.Controller.react g.C.Controller.start

pub returns-clause-entries : goal.returns-clause-entries
returns-clause-entries g c = run_writable g.C.Controller.react g.C.Controller.start

pub returns-clause-items : goal.returns-clause-items
returns-clause-items g c = λ setup trace of. All-weaker (IsEntryOf setup) HasValidItem (has_valid setup) trace.entries of
