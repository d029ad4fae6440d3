-- By the form of an atom.
use Rattle.input_atoms.proofs.Partition.{firsts_ascend, places_ascend, sizes}
use Rattle.input_atoms.proofs.laws.atoms_are_in_order.Goals as goal

pub returns : goal.returns
returns c = record { sizes = sizes; places = places_ascend; firsts = firsts_ascend }
