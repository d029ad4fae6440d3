-- None of the actions of a view is bad.
use Rattle.std.proofs.Common.{arith, refl}
use Rattle.std.proofs.lemmas.Grind.{common_steps}
use Rattle.of10_messages.specs.Refusal.{action_starts}
use Rattle.of10_view.proofs.view.View.actions.Goals.{in-13, in-14, in_default}
use Rattle.of10_view.proofs.view.View.actions.Goals as goal

pub of-requires : goal.of-requires
unfolding action_starts
of-requires c = elim c.match-kind.branch [
  | in-13 w ↦ grind (arith, common_steps)
  | in-14 w ↦ grind (arith, common_steps)
  | in_default w ↦ rw (w.of-is, w.front_of-in_default.ensures.front) refl
]
