-- The atoms that begin before the place.
use Rattle.std.proofs.Common.{◌≡◌}
use Rattle.std.specs.List.{filter_map, range_with_len}
use Rattle.input_atoms.specs.Atoms.{atom_at}
use Rattle.input_atoms.proofs.pairing.atoms.Given as goal

abbrev pub invariant-loop-at : goal.invariant-loop-at
invariant-loop-at l = l.atoms ≡ filter_map (atom_at l.script) (range_with_len 0 l.at)
