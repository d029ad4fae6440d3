use Rattle.std.proofs.lemmas.Result.{IfOk-weaker}
use Rattle.sts_cli.specs.declared.words.Form.TheVariants.{OfScenario, OfLog, Gen}
use Rattle.sts_cli.proofs.Told.{answer_told}
use Rattle.sts_cli.proofs.top.answer_to.Goals as goal

pub returns-in-OfScenario-clause-told : goal.returns-in-OfScenario-clause-told
returns-in-OfScenario-clause-told g c = IfOk-weaker c.of_scenario.result _ _ (λ answer is. answer_told _ (OfScenario c.in-OfScenario.aim) c.args.bytes.now answer.status.code answer.text.items is) c.of_scenario.ensures

pub returns-in-OfLog-clause-told : goal.returns-in-OfLog-clause-told
returns-in-OfLog-clause-told g c = IfOk-weaker c.of_log.result _ _ (λ answer is. answer_told (λ _ _. Unit {0}) (OfLog c.in-OfLog.job) c.args.bytes.now answer.status.code answer.text.items is) c.of_log.ensures

pub returns-in-Gen-clause-told : goal.returns-in-Gen-clause-told
returns-in-Gen-clause-told g c = IfOk-weaker c.made.result _ _ (λ answer is. answer_told (λ _ _. Unit {0}) (Gen c.in-Gen.seed c.in-Gen.size) c.args.bytes.now answer.status.code answer.text.items is) c.made.ensures
