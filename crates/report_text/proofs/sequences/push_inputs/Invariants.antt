use Rattle.std.proofs.Common.{◌≡◌, ◌++◌, [], drop, string_bytes}
use Rattle.std.specs.Prelude.{flat_map, if◌then◌else◌}
use Rattle.std.specs.List.{enumerate_from}
use Rattle.report_text.specs.Sequences.{input_line, input_lines, is_kept}
use Rattle.report_text.proofs.sequences.push_inputs.Given as goal

abbrev pub invariant-loop-place : goal.invariant-loop-place
invariant-loop-place l =
    string_bytes l.text ++ flat_map (λ line. if is_kept l.atoms line.0 then input_line line.0 line.1 else []) (enumerate_from l.place (drop l.place l.script))
    ≡ string_bytes l.fn.text ++ input_lines l.atoms l.script
