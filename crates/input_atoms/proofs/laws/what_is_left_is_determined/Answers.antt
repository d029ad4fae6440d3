-- By induction over the steps.
use Rattle.input_atoms.proofs.Existing.{something_left}
use Rattle.input_atoms.proofs.Minimal.{determined}
use Rattle.input_atoms.proofs.laws.what_is_left_is_determined.Goals as goal

pub returns : goal.returns
returns g c = record { some = something_left g.T.Test.test; one = λ list one other parts never way reduced. determined g.T.Test.test never way other reduced }
