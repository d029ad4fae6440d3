-- The ports of a network, and what is wired to what.
use Rattle.std.specs.Prelude.{ℕ, ◌<◌, ◌≤◌, ◌==◌, ◌&&◌, List, [], ◌∷◌, length, map, flat_map, filter_map, slice_get, slice_index, Bool, Option, Some, None, if◌then◌else◌}
use Rattle.std.specs.List.{enumerate_from}
use Rattle.topology.specs.declared.network.Topology.{Topology}

-- a switch and a port of it: ports are numbered from 1
abbrev pub IsPort : List ℕ → ℕ × ℕ → Type 0
IsPort ports place = (place.0 < length ports) × (1 ≤ place.1) × (place.1 ≤ slice_index ports place.0)

-- both ends of each link
abbrev pub ends_of : List (ℕ × ℕ × ℕ × ℕ) → List (ℕ × ℕ)
ends_of links = flat_map (λ link. (link.0, link.1) ∷ (link.2, link.3) ∷ []) links

-- where the hosts start
abbrev pub places_of : List (ℕ × ℕ × ℕ) → List (ℕ × ℕ)
places_of hosts = map (λ host. (host.0, host.1)) hosts

-- each end of each link, counted from a number on, with the link and its other end
abbrev pub joints : ℕ → List (ℕ × ℕ × ℕ × ℕ) → List ((ℕ × ℕ) × (ℕ × ℕ × ℕ))
joints first links = flat_map (λ link. ((link.1.0, link.1.1), (link.0, link.1.2, link.1.3)) ∷ ((link.1.2, link.1.3), (link.0, link.1.0, link.1.1)) ∷ []) (enumerate_from first links)

-- whether two pairs of numbers are one switch and port
abbrev pub is_place : ℕ → ℕ → ℕ × ℕ → Bool
is_place s p place = place.0 == s && place.1 == p

-- the link that ends at a port, with the switch and the port of its other end
abbrev pub far_end : Topology → ℕ → ℕ → Option (ℕ × ℕ × ℕ)
far_end topology s p = slice_get (filter_map (λ joint. if is_place s p joint.0 then Some joint.1 else None) (joints 0 topology.links)) 0
