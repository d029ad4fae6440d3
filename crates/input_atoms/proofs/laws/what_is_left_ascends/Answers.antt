-- Parts and complements keep order.
use Rattle.input_atoms.proofs.Ascending.{among, ascends}
use Rattle.input_atoms.proofs.laws.what_is_left_ascends.Goals as goal

pub returns : goal.returns
returns g c = record { ascends = ascends g.T.Test.test; among = among g.T.Test.test }
