use Rattle.std.proofs.Common.{◌∙◌, ◌++◌, List, ℕ, ap}
use Rattle.sts_cli.proofs.recording.found.Goals as goal

pub returns : goal.returns
returns c = (
  c.in_ok-status.field-0.text.items,
  c.in_ok-status.ensures,
  c.in_ok-extend_from_slice.ensures.items ∙ ap (λ (rest : List ℕ). c.args.recording.line.items ++ rest) c.as_slice.ensures.value,
)
