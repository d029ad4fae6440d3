use Rattle.scenario_doc.proofs.MadeBack.{made_writable}
use Rattle.scenario_doc.proofs.laws.a_draft_that_keeps_its_rules_can_be_written.Goals as goal

pub returns : goal.returns
returns c = made_writable
