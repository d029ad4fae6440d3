-- The place is as the definition says it.
use Rattle.std.proofs.Common.{rules}
use Rattle.input_atoms.specs.Cutting.{begin_of}
use Rattle.input_atoms.proofs.parts.begin.Goals as goal

pub returns : goal.returns
unfolding begin_of
returns c = search rules
