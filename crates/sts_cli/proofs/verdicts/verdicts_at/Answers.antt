use Rattle.sts_cli.proofs.Judging.{counted, judged}
use Rattle.sts_cli.proofs.verdicts.verdicts_at.Goals as goal

pub returns-clause-verdicts : goal.returns-clause-verdicts
returns-clause-verdicts c = judged c.args.scenario.now c.args.world.now c.in_ok-network.network c.as_slice.result.now c.verdicts.result
    c.in_ok-network.ensures c.as_slice.ensures c.verdicts.ensures

pub returns-clause-count : goal.returns-clause-count
returns-clause-count c = counted c.in_ok-network.network c.as_slice.result.now c.args.scenario.now.invariants c.verdicts.result
    c.as_slice.ensures c.verdicts.ensures
