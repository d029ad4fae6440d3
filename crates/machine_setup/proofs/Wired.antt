-- What the parts of the test of a network's wiring say together.
use Rattle.std.proofs.Common.{◌≡◌, ◌≢◌, ℕ, ◌<◌, ◌≤◌, ◌^◌, List, ◌++◌, map, Bool, true, false, IsTrue, ◌↔◌, All, AllPairs, ◌&&◌}
use Rattle.topology.specs.Network.{IsPort, ends_of, places_of}
use Rattle.topology.specs.declared.network.Topology.{Topology}
use Rattle.machine_setup.specs.Setup.{IsWired}

-- both tests are passed
pub both : (a b : Bool) → IsTrue (a && b) ↔ (IsTrue a × IsTrue b)
both true true = (λ h. (h, h), λ h. h.0)
both true false = (λ h. absurd (cc), λ h. h.1)
both false true = (λ h. absurd (cc), λ h. h.0)
both false false = (λ h. absurd (cc), λ h. h.0)

pub wired : (t : Topology) (ends places attached : List (ℕ × ℕ)) (addresses : List ℕ) (a b r : Bool)
    → ends ≡ ends_of t.links → places ≡ places_of t.hosts → attached ≡ ends ++ places → addresses ≡ map (λ host. host.2) t.hosts
    → (IsTrue a ↔ (All (IsPort t.ports) ends × All (IsPort t.ports) places))
    → (IsTrue b ↔ (AllPairs (λ one other. one ≢ other) attached × AllPairs (λ one other. one ≢ other) addresses))
    → (IsTrue r ↔ All (λ host. (1 ≤ host.2) × (host.2 < 2 ^ 48)) t.hosts)
    → IsTrue ((a && b) && r) ↔ IsWired t
wired t ends places attached addresses a b r e p j m ha hb hr = (
  λ ok. let abr = (both (a && b) r).0 ok in let ab = (both a b).0 abr.0 in let fit = ha.0 ab.0 in let differ = hb.0 ab.1 in
      record { ends = rw (← e) fit.0; places = rw (← p) fit.1; apart = rw (← e, ← p, ← j) differ.0; addresses = hr.0 abr.1; differ = rw (← m) differ.1 },
  λ w. (both (a && b) r).1 ((both a b).1 (ha.1 (rw e w.ends, rw p w.places), hb.1 (rw (j, e, p) w.apart, rw m w.differ)), hr.1 w.addresses),
)
