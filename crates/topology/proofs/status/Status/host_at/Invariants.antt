use Rattle.std.proofs.Common.{◌≡◌, ℕ, List, drop, slice_get, filter_map, Option, Some, None, if◌then◌else◌}
use Rattle.std.specs.List.{enumerate_from}
use Rattle.topology.specs.Network.{is_place}
use Rattle.topology.proofs.status.Status.host_at.Given as goal

-- the host at a port, of hosts counted from a number on
abbrev host_from : ℕ → ℕ → ℕ → List (ℕ × ℕ) → Option ℕ
host_from s p first places = slice_get (filter_map (λ host. if is_place s p host.1 then Some host.0 else None) (enumerate_from first places)) 0

abbrev pub invariant-loop-at : goal.invariant-loop-at
invariant-loop-at l = host_from l.s l.p 0 l.place-items ≡ host_from l.s l.p l.at (drop l.at l.place-items)
