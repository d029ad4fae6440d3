use Rattle.std.proofs.Common.{arith}
use Rattle.std.proofs.lemmas.Grind.{common_steps}
use Rattle.doc_forms.specs.Reading.{Gives}
use Rattle.scenario_doc.specs.Rules.{draft_rules}
use Rattle.scenario_doc.proofs.Fit.{fits_if_ok}
use Rattle.scenario_doc.proofs.draft.Draft.check.Goals as goal

pub returns-clause-fit : goal.returns-clause-fit
returns-clause-fit c =
    let gives : Gives c.check_switches.result (draft_rules c.args.self.now) = grind (arith, common_steps) in
    fits_if_ok c.args.self.now c.check_switches.result gives
