use Rattle.causal_minimizer.proofs.OneReduction.{one_reduction}
use Rattle.causal_minimizer.proofs.laws.there_is_one_reduction.Goals as goal

pub returns : goal.returns
returns g c setup trace invariant = one_reduction g.C.Controller.react g.C.Controller.start c.there_is_one_replay.ensures c.there_is_one_verdict.ensures setup trace invariant
