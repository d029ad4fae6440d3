use Rattle.scenario_doc.proofs.WrittenDrafts as drafts
use Rattle.scenario_doc.proofs.write_laws.reads_back.Goals as goal

pub returns : goal.returns
returns c = drafts.reads_back
