use Rattle.std.proofs.Common.{◌≡◌, subst}
use Rattle.std.proofs.lemmas.Result.{IfOk-weaker}
use Rattle.event_world.specs.World.{Situation}
use Rattle.controller_host.specs.Hosting.{Hosting}
use Rattle.sts_cli.specs.Verdicts.{AreVerdicts}
use Rattle.sts_cli.proofs.jobs.reduced.Goals as goal

pub returns : goal.returns
returns c =
    let verdicts = c.in_ok-verdicts.verdicts in
    let are = subst (λ (world : Situation Hosting). AreVerdicts c.args.log.now.scenario world verdicts) c.requires.world c.in_ok-verdicts.ensures.verdicts in
    IfOk-weaker c.concluded.result _ _ (λ answer is. (verdicts, are, is)) c.concluded.ensures
