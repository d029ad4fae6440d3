use Rattle.sts_cli.proofs.OneFinding.{one_finding}
use Rattle.sts_cli.proofs.laws.a_log_has_one_finding.Goals as goal

pub returns : goal.returns
returns g c old new = one_finding c.there_is_one_verdict.ensures c.there_is_one_reduction.ensures _
