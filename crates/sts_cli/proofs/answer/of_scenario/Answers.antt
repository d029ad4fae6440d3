use Rattle.std.proofs.Common.{inl}
use Rattle.std.proofs.lemmas.Result.{IfOk-weaker}
use Rattle.sts_cli.proofs.answer.of_scenario.Goals as goal

pub returns-in-Ok : goal.returns-in-Ok
returns-in-Ok g c = IfOk-weaker c.recorded.result _ _ (λ answer made. inl (c.in-Ok.scenario, c.in-Ok.ensures.read, made)) c.recorded.ensures
