-- There are as many flags as lines.
use Rattle.std.proofs.Common.{◌∙◌, ap, length}
use Rattle.causal_minimizer.specs.Failing.{atoms_with}
use Rattle.causal_minimizer.proofs.Flags.{length_kept}
use Rattle.causal_minimizer.proofs.trial.replayed_with.Goals as goal

pub replay-requires-clause-keep : goal.replay-requires-clause-keep
replay-requires-clause-keep g c κs within = ap length (c.as_slice.ensures.value ∙ c.in_ok-keep.ensures) ∙ length_kept c.len.result (atoms_with c.args.atoms.now c.args.numbers.now) ∙ c.len.ensures
