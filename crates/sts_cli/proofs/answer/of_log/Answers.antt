use Rattle.std.proofs.Common.{inl}
use Rattle.std.proofs.lemmas.Result.{IfOk-weaker}
use Rattle.sts_cli.proofs.answer.of_log.Goals as goal

pub returns-in-Ok : goal.returns-in-Ok
returns-in-Ok c = IfOk-weaker c.judged.result _ _ (λ answer judged. inl (c.in-Ok.log, c.in-Ok.ensures.read, judged)) c.judged.ensures
