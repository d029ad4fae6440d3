use Rattle.std.proofs.Common.{rules}
use Rattle.scenario_doc.specs.Written.{line_data}
use Rattle.scenario_doc.proofs.WrittenTexts.{line_plain, text_of_plain}
use Rattle.scenario_doc.proofs.write_script.line_text.Goals as goal

pub returns : goal.returns
returns c = text_of_plain c.to_string.result c.in_ok-to_json.field-0 3 (line_data c.args.line.now) (c.in_ok-to_json.ensures) (line_plain c.args.line.now) c.to_string.ensures.text
