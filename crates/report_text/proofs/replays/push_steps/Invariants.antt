use Rattle.std.proofs.Common.{◌≡◌, ◌++◌, drop, string_bytes}
use Rattle.std.specs.Prelude.{flat_map}
use Rattle.std.specs.List.{enumerate_from}
use Rattle.report_text.specs.Replays.{step_line, step_lines}
use Rattle.report_text.proofs.replays.push_steps.Given as goal

abbrev pub invariant-loop-at : goal.invariant-loop-at
invariant-loop-at l =
    string_bytes l.text ++ flat_map (λ step. step_line step.0 step.1) (enumerate_from l.at (drop l.at l.run))
    ≡ string_bytes l.fn.text ++ step_lines l.run
