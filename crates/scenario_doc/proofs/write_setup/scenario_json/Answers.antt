use Rattle.std.proofs.Common.{All, map, ap, subst, ◌∙◌}
use Rattle.scenario_doc.specs.Written.{IsNarrowPlan, draft_data}
use Rattle.scenario_doc.specs.WrittenScenario.{drafted, plans_of_host}
use Rattle.scenario_doc.proofs.WrittenScenarios.{always, draft_reads_back}
use Rattle.scenario_doc.proofs.WrittenTexts.{draft_plain}
use Rattle.scenario_doc.proofs.write_setup.scenario_json.Goals as goal

pub returns-clause-whole : goal.returns-clause-whole
returns-clause-whole c = always c.draft_json.result _ (draft_plain (drafted c.args.scenario.now)).whole

pub returns-clause-flat : goal.returns-clause-flat
returns-clause-flat c = always c.draft_json.result _ (draft_plain (drafted c.args.scenario.now)).flat

pub returns-clause-reads : goal.returns-clause-reads
returns-clause-reads c =
    let plans : All (All IsNarrowPlan) (drafted c.args.scenario.now).plans =
    subst (All (All IsNarrowPlan)) (c.in_ok-plans.ensures.plans ∙ ap (map plans_of_host) c.as_slice.ensures) c.in_ok-plans.ensures.narrow in
    always c.draft_json.result _ (draft_reads_back c.args.scenario.now plans)
