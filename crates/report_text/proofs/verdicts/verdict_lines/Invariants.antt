use Rattle.std.proofs.Common.{◌≡◌, ◌++◌, drop, string_bytes}
use Rattle.report_text.specs.Verdicts.{lines_from, verdicts_text}
use Rattle.report_text.proofs.verdicts.verdict_lines.Given as goal

abbrev pub invariant-loop-place : goal.invariant-loop-place
invariant-loop-place l = string_bytes l.text ++ lines_from l.place (drop l.place l.list) (drop l.place l.verdicts) ≡ verdicts_text l.list l.verdicts
