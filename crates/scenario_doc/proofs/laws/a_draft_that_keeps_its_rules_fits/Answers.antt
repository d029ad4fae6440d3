use Rattle.scenario_doc.proofs.Fit.{fits}
use Rattle.scenario_doc.proofs.laws.a_draft_that_keeps_its_rules_fits.Goals as goal

pub returns : goal.returns
returns c = fits
