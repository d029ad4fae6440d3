use Rattle.std.proofs.Common.{◌≡◌, ℕ, List, drop, slice_get, filter_map, Option, Some, None, if◌then◌else◌}
use Rattle.topology.specs.Network.{is_place, joints}
use Rattle.topology.proofs.network.Topology.far_end.Given as goal

-- the far end of a port, in links counted from a number on
abbrev far_from : ℕ → ℕ → ℕ → List (ℕ × ℕ × ℕ × ℕ) → Option (ℕ × ℕ × ℕ)
far_from s p first links = slice_get (filter_map (λ joint. if is_place s p joint.0 then Some joint.1 else None) (joints first links)) 0

abbrev pub invariant-loop-at : goal.invariant-loop-at
invariant-loop-at l = far_from l.s l.p 0 l.link-items ≡ far_from l.s l.p l.at (drop l.at l.link-items)
