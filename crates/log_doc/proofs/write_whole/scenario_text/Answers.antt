use Rattle.serde_json.specs.View.{view}
use Rattle.scenario_doc.specs.Written.{draft_data}
use Rattle.scenario_doc.specs.WrittenScenario.{drafted}
use Rattle.log_doc.proofs.WrittenLogs.{scenario_readable}
use Rattle.log_doc.proofs.write_whole.scenario_text.Goals as goal

pub returns-clause-readable : goal.returns-clause-readable
returns-clause-readable c =
    scenario_readable c.to_vec.result (view c.in_ok-value.value) (draft_data (drafted c.args.scenario.now)) c.in_ok-value.ensures.json
    c.in_ok-value.ensures.whole c.in_ok-value.ensures.flat c.to_vec.ensures.order c.to_vec.ensures.reads_back
