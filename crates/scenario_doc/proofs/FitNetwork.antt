-- Hosts and links that keep their rules are wired.
use Rattle.std.proofs.Common.{arith, suc, zero, ◌≡◌, ◌≢◌, ℕ, ◌+◌, ◌<◌, ◌≤◌, List, [], ◌∷◌, ◌++◌, length, take, get_or, Bool, true, false, ◌||◌, not, eqb, refl, subst, sym, ◌-◌, All, AllPairs, inl, inr}
use Rattle.std.specs.List.{list_any}
use Rattle.std.specs.Fmt.{decimal}
use Rattle.std.proofs.lemmas.Bool.{eq-eqb, leb-true, ltb-true, cases_lt}
use Rattle.std.proofs.lemmas.List.{append_assoc, get_or_append_left, get_or-append_right, length-append, take_all}
use Rattle.std.proofs.lemmas.List.Concat.{flat_map-append}
use Rattle.std.proofs.lemmas.List.Elements.{All-map, All-push}
use Rattle.std.proofs.lemmas.List.Folds.{list_any-append}
use Rattle.std.proofs.lemmas.List.Quantifiers.{all_pairs_push}
use Rattle.std.proofs.Math.Seq.{take-suc}
use Rattle.topology.specs.Network.{IsPort, ends_of, is_place, places_of}
use Rattle.topology.specs.declared.network.Topology.{Topology}
use Rattle.doc_forms.specs.Reading.{require, ◌>>=◌}
use Rattle.machine_setup.specs.Setup.{IsWired}
use Rattle.scenario_doc.specs.Ranges.{IsWideHost}
use Rattle.scenario_doc.specs.Rules.{at, each, free_rules, host_rules, link_rules, port_rules, switch_rules}
use Rattle.scenario_doc.proofs.FitReading.{IsKept, and_parts, both_kept, each_kept, none_at, or_parts, part_kept, require_kept, require_not_kept, true_not_false, under_kept, any-map, differ_before}

-- ---- places

-- a place is itself
is_place_itself : (s p : ℕ) → is_place s p (s, p) ≡ true
is_place_itself s p = rw (eq-eqb s s refl, eq-eqb p p refl) refl

-- a place that is not another one differs from it
apart : (s p : ℕ) (place : ℕ × ℕ) → is_place s p place ≡ false → place ≢ (s, p)
apart s p place e same = true_not_false (rw (same, is_place_itself s p) at e)

pub port_fits : (network : Topology) (s p : ℕ) → IsKept (switch_rules network s) → IsKept (port_rules network s p) → IsPort network.ports (s, p)
port_fits network s p there port =
    let range = and_parts _ _ (require_kept 11 _ port) in
    (ltb-true _ _ (require_kept 10 _ there), leb-true _ _ range.0, leb-true _ _ range.1)

-- no place of a list is one that a test finds not in it
pub none_is : (s p : ℕ) (places : List (ℕ × ℕ)) → list_any (is_place s p) places ≡ false → All (λ place. place ≢ (s, p)) places
none_is s p places e = λ k d h. apart s p (get_or places k d) (none_at (is_place s p) places e k d h)

-- places that differ, before others that differ from them and among themselves
differ_append : (xs ys : List (ℕ × ℕ)) → AllPairs (λ one other. one ≢ other) xs → AllPairs (λ one other. one ≢ other) ys
    → All (λ x. All (λ y. y ≢ x) ys) xs → AllPairs (λ one other. one ≢ other) (xs ++ ys)
differ_append xs ys first second cross i j d h k =
    let whole : j < length xs + length ys = rw (length-append xs ys) at k in
    elim (cases_lt j (length xs)) [
      | inl j_first ↦ rw (get_or_append_left xs ys d i (omega arith), get_or_append_left xs ys d j j_first) (first i j d h j_first)
      | inr j_second ↦ elim (cases_lt i (length xs)) [
        | inl i_first ↦ rw (get_or_append_left xs ys d i i_first, get_or-append_right xs ys (length xs) j d refl j_second)
            (λ same. cross i d i_first (j - length xs) d (omega arith) (sym same))
        | inr i_second ↦ rw (get_or-append_right xs ys (length xs) i d refl i_second, get_or-append_right xs ys (length xs) j d refl j_second)
            (second (i - length xs) (j - length xs) d (omega arith) (omega arith))
      ]
    ]

-- ---- hosts

-- what the rules of a host show
record HostFits (network : Topology) (index : ℕ) (host : ℕ × ℕ × ℕ) : Type 0 where
  alone : list_any (is_place host.0 host.1) (places_of (take index network.hosts)) ≡ false
  port : IsPort network.ports (host.0, host.1)
  address : list_any (λ one. eqb one.2 host.2) (take index network.hosts) ≡ false

host_fits : (network : Topology) (index s p mac : ℕ) → IsKept (host_rules network index (s, p, mac)) → HostFits network index (s, p, mac)
host_fits network index s p mac e =
    let alone = both_kept (require 13 (not (list_any (is_place s p) (places_of (take index network.hosts))))) _ e in
    let there = part_kept (decimal 0) (switch_rules network s) _ alone.1 in
    let port = part_kept (decimal 1) (port_rules network s p) _ there.1 in
    record {
      alone = require_not_kept 13 _ alone.0;
      port = port_fits network s p there.0 port.0;
      address = require_not_kept 14 _ (under_kept (decimal 2) _ port.1);
    }

hosts_fit : (network : Topology) → IsKept (each (host_rules network) network.hosts) → (k : ℕ) (d : ℕ × ℕ × ℕ) → k < length network.hosts
    → HostFits network k (get_or network.hosts k d)
hosts_fit network e k d h = let host = get_or network.hosts k d in
    host_fits network k host.0 host.1 host.2 (each_kept (host_rules network) network.hosts e k d h)

-- ---- links

-- what the rules of a link show
record LinkFits (network : Topology) (index : ℕ) (link : ℕ × ℕ × ℕ × ℕ) : Type 0 where
  one : IsPort network.ports (link.0, link.1)
  one_free : list_any (is_place link.0 link.1) (ends_of (take index network.links) ++ places_of network.hosts) ≡ false
  other : IsPort network.ports (link.2, link.3)
  other_free : list_any (is_place link.2 link.3) ((link.0, link.1) ∷ ends_of (take index network.links) ++ places_of network.hosts) ≡ false

link_fits : (network : Topology) (index s p t q : ℕ) → IsKept (link_rules network index (s, p, t, q)) → LinkFits network index (s, p, t, q)
link_fits network index s p t q e =
    let taken = ends_of (take index network.links) ++ places_of network.hosts in
    let one = part_kept (decimal 0) (switch_rules network s) _ e in
    let one_port = part_kept (decimal 1) (port_rules network s p >>= (λ port. free_rules taken s p)) _ one.1 in
    let one_end = both_kept (port_rules network s p) (free_rules taken s p) one_port.0 in
    let other = part_kept (decimal 2) (switch_rules network t) _ one_port.1 in
    let other_end = both_kept (port_rules network t q) (free_rules ((s, p) ∷ taken) t q) (under_kept (decimal 3) _ other.1) in
    record {
      one = port_fits network s p one.0 one_end.0;
      one_free = require_not_kept 12 _ one_end.1;
      other = port_fits network t q other.0 other_end.0;
      other_free = require_not_kept 12 _ other_end.1;
    }

-- ends of links: ports of switches that differ, and at which no host is
record AreEnds (counts : List ℕ) (places ends : List (ℕ × ℕ)) : Type 0 where
  ports : All (IsPort counts) ends
  differ : AllPairs (λ one other. one ≢ other) ends
  free : All (λ end. All (λ place. place ≢ end) places) ends

one_more_end : (ports : List ℕ) (places ends : List (ℕ × ℕ)) (s p : ℕ) → AreEnds ports places ends → IsPort ports (s, p)
    → list_any (is_place s p) (ends ++ places) ≡ false → AreEnds ports places (ends ++ (s, p) ∷ [])
one_more_end ports places ends s p old port free =
    let parts = or_parts (list_any (is_place s p) ends) (list_any (is_place s p) places) (rw (list_any-append (is_place s p) ends places) at free) in
    record {
      ports = All-push (IsPort ports) ends (s, p) old.ports port;
      differ = all_pairs_push (λ (one other : ℕ × ℕ). one ≢ other) ends (s, p) old.differ (none_is s p ends parts.0);
      free = All-push (λ (end : ℕ × ℕ). All (λ (place : ℕ × ℕ). place ≢ end) places) ends (s, p) old.free (none_is s p places parts.1);
    }

-- a test that finds none in a list with one more in the midst
midst : (x e y : Bool) → (x || (e || y)) ≡ false → ((e || (x || false)) || y) ≡ false
midst true e y h = absurd (cc)
midst false true y h = absurd (cc)
midst false false y h = h

one_more_link : (ports : List ℕ) (places ends : List (ℕ × ℕ)) (s p t q : ℕ) → AreEnds ports places ends → IsPort ports (s, p)
    → list_any (is_place s p) (ends ++ places) ≡ false → IsPort ports (t, q) → list_any (is_place t q) ((s, p) ∷ ends ++ places) ≡ false
    → AreEnds ports places (ends ++ (s, p) ∷ (t, q) ∷ [])
one_more_link ports places ends s p t q old one one_free other other_free =
    let first = one_more_end ports places ends s p old one one_free in
    let f = is_place t q in
    let free : list_any f ((ends ++ (s, p) ∷ []) ++ places) ≡ false =
    rw (list_any-append f (ends ++ (s, p) ∷ []) places, list_any-append f ends ((s, p) ∷ []))
    (midst (f (s, p)) (list_any f ends) (list_any f places) (rw (list_any-append f ends places) at other_free)) in
    rw append_assoc at (one_more_end ports places (ends ++ (s, p) ∷ []) t q first other free)

ends_of_more : (links : List (ℕ × ℕ × ℕ × ℕ)) (i : ℕ) (d : ℕ × ℕ × ℕ × ℕ) → i < length links
    → ends_of (take (suc i) links) ≡ ends_of (take i links) ++ ((get_or links i d).0, (get_or links i d).1) ∷ ((get_or links i d).2, (get_or links i d).3) ∷ []
ends_of_more links i d h =
    rw (take-suc links i d h) (flat_map-append (λ (link : ℕ × ℕ × ℕ × ℕ). (link.0, link.1) ∷ (link.2, link.3) ∷ []) (take i links) (get_or links i d ∷ []))

ends_fit : (network : Topology) → IsKept (each (link_rules network) network.links) → (i : ℕ) → i ≤ length network.links
    → AreEnds network.ports (places_of network.hosts) (ends_of (take i network.links))
ends_fit network e zero h = record { ports = λ k d within. absurd (omega arith); differ = λ i j d less within. absurd (omega arith); free = λ k d within. absurd (omega arith) }
ends_fit network e (suc i) h =
    let d : ℕ × ℕ × ℕ × ℕ = (0, 0, 0, 0) in
    let within : i < length network.links = omega arith in
    let link = get_or network.links i d in
    let fits = link_fits network i link.0 link.1 link.2 link.3 (each_kept (link_rules network) network.links e i d within) in
    rw (ends_of_more network.links i d within)
    (one_more_link network.ports (places_of network.hosts) (ends_of (take i network.links)) link.0 link.1 link.2 link.3
    (ends_fit network e i (omega arith)) fits.one fits.one_free fits.other fits.other_free)

all_ends_fit : (network : Topology) → IsKept (each (link_rules network) network.links)
    → AreEnds network.ports (places_of network.hosts) (ends_of network.links)
all_ends_fit network e =
    let n = length network.links in
    let whole : take n network.links ≡ network.links = take_all n network.links (omega arith) in
    subst (λ (links : List (ℕ × ℕ × ℕ × ℕ)). AreEnds network.ports (places_of network.hosts) (ends_of links)) whole (ends_fit network e n (omega arith))

-- ---- the whole

pub wired : (network : Topology) → All IsWideHost network.hosts → IsKept (each (host_rules network) network.hosts)
    → IsKept (each (link_rules network) network.links) → IsWired network
wired network wide hosts links =
    let place : ℕ × ℕ × ℕ → ℕ × ℕ = λ host. (host.0, host.1) in
    let ends = all_ends_fit network links in
    let places : AllPairs (λ (one other : ℕ × ℕ). one ≢ other) (places_of network.hosts) =
    differ_before place (λ host other. is_place host.0 host.1 (place other)) network.hosts
    (λ x y same. subst (λ (one : ℕ × ℕ). is_place y.0 y.1 one ≡ true) (sym same) (is_place_itself y.0 y.1))
    (λ j e h. rw (any-map place (is_place (get_or network.hosts j e).0 (get_or network.hosts j e).1) (take j network.hosts)) at
    (hosts_fit network hosts j e h).alone) in
    record {
      ends = ends.ports;
      places = All-map (IsPort network.ports) place network.hosts (λ k d h. (hosts_fit network hosts k d h).port);
      apart = differ_append (ends_of network.links) (places_of network.hosts) ends.differ places ends.free;
      addresses = wide;
      differ = differ_before (λ (host : ℕ × ℕ × ℕ). host.2) (λ host other. eqb other.2 host.2) network.hosts
          (λ x y same. eq-eqb x.2 y.2 same) (λ j e h. (hosts_fit network hosts j e h).address);
    }
