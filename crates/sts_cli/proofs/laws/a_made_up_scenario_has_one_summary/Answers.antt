use Rattle.sts_cli.proofs.OneFinding.{one_summary}
use Rattle.sts_cli.proofs.laws.a_made_up_scenario_has_one_summary.Goals as goal

pub returns : goal.returns
returns c = one_summary c.there_is_one_verdict.ensures c.there_is_one_reduction.ensures c.there_is_one_run_of_one_thread.ensures
