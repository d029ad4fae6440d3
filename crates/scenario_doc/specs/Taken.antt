-- Sets that remember a part of a list, so that a rule finds in them what it would find by a walk along the list.
use Rattle.std.specs.Prelude.{◌≡◌, ◌==◌, ℕ, List, Bool, not, ⊤}
use Rattle.std.specs.BTreeSet.{BTreeSet, contains}
use Rattle.std.specs.List.{list_any}
use Rattle.std.specs.Ordering.{nat_cmp, ordering_then}
use Rattle.std.specs.declared.cmp.Ordering.{Ordering}
use Rattle.topology.specs.Network.{is_place}
use Rattle.topology.specs.declared.network.Topology.{Topology}
use Rattle.doc_forms.specs.Reading.{Reading, ◌>>=◌, require}
use Rattle.scenario_doc.specs.Rules.{port_rules}

-- the order of places: by switch, then by port
abbrev pub place_cmp : ℕ × ℕ → ℕ × ℕ → Ordering
place_cmp one other = ordering_then (nat_cmp one.0 other.0) (nat_cmp one.1 other.1)

-- whether a set has a place
abbrev pub has_place : BTreeSet (ℕ × ℕ) → ℕ → ℕ → Bool
has_place set s p = contains place_cmp set (s, p)

-- whether a set has an address
abbrev pub has_address : BTreeSet ℕ → ℕ → Bool
has_address = contains nat_cmp

-- a set has exactly the places of a list
abbrev pub HasPlaces : BTreeSet (ℕ × ℕ) → List (ℕ × ℕ) → Type 0
HasPlaces set places = (s p : ℕ) → has_place set s p ≡ list_any (is_place s p) places

-- a set has exactly the addresses of some hosts
abbrev pub HasAddresses : BTreeSet ℕ → List (ℕ × ℕ × ℕ) → Type 0
HasAddresses set hosts = (mac : ℕ) → has_address set mac ≡ list_any (λ host. host.2 == mac) hosts

-- a port of a switch, and whether it is taken
abbrev pub end_rules : Topology → Bool → ℕ → ℕ → Reading ⊤
end_rules network is_taken s p = do
  port ← port_rules network s p
  require 12 (not is_taken)
