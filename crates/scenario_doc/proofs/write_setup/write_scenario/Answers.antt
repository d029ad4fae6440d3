use Rattle.std.proofs.Common.{rules}
use Rattle.scenario_doc.specs.Written.{draft_data}
use Rattle.scenario_doc.specs.WrittenScenario.{drafted}
use Rattle.scenario_doc.proofs.WrittenScenarios.{text_reads}
use Rattle.scenario_doc.proofs.WrittenTexts.{bytes_of_plain, deep_enough, draft_plain, json_of_plain}
use Rattle.scenario_doc.proofs.write_setup.write_scenario.Goals as goal

pub returns-clause-text : goal.returns-clause-text
returns-clause-text c = let draft = drafted c.args.scenario.now in
    bytes_of_plain c.json_bytes.result c.in_ok-value.value 7 (draft_data draft) c.in_ok-value.ensures.json (draft_plain draft) c.json_bytes.ensures.text

pub returns-clause-reads_back : goal.returns-clause-reads_back
returns-clause-reads_back c = let draft = drafted c.args.scenario.now in
    text_reads c.json_bytes.result c.args.scenario.now
    (json_of_plain c.json_bytes.result c.in_ok-value.value (draft_data draft) c.in_ok-value.ensures.json (deep_enough draft) c.json_bytes.ensures.json)
    c.in_ok-value.ensures.reads
