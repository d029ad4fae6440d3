use Rattle.causal_minimizer.proofs.Needed.{none_left_out}
use Rattle.causal_minimizer.proofs.laws.no_atom_can_be_left_out.Goals as goal

pub returns : goal.returns
returns g c setup trace invariant numbers enough = none_left_out g.C.Controller.react g.C.Controller.start setup trace invariant numbers enough
