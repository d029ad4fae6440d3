-- By the lines that make a pair.
use Rattle.input_atoms.proofs.Partition.{lines, some, one}
use Rattle.input_atoms.proofs.laws.every_line_is_in_one_atom.Goals as goal

pub returns : goal.returns
returns c = record { lines = lines; some = some; one = one }
