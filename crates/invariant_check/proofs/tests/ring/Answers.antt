-- The ends of the links and the host's place are ports, and differ.
use Rattle.std.proofs.Common.{◌≡◌, ◌≢◌, ◌∙◌, ◌≤◌, ◌++◌, ℕ, AllPairs, [], ◌∷◌, length, refl, sym, subst, lit<, arith}
use Rattle.std.proofs.lemmas.List.Elements.{All-from_recursion}
use Rattle.topology.specs.Network.{IsPort, ends_of, places_of}
use Rattle.topology.specs.Status.{start_of}
use Rattle.event_world.specs.declared.net_state.NetState.{NetState}
use Rattle.invariant_check.specs.Network.{IsNet}
use Rattle.invariant_check.proofs.tests.ring.Goals as goal

ring_is_net : (net : NetState) → net.topology.ports ≡ 3 ∷ 3 ∷ 3 ∷ [] → net.topology.links ≡ (0, 2, 1, 1) ∷ (1, 2, 2, 1) ∷ (2, 2, 0, 1) ∷ []
    → net.topology.hosts ≡ (0, 3, 1) ∷ [] → net.status ≡ start_of net.topology → length net.tables ≡ 3
    → AllPairs {X = ℕ × ℕ} (λ one other. one ≢ other) ((0, 2) ∷ (1, 1) ∷ (1, 2) ∷ (2, 1) ∷ (2, 2) ∷ (0, 1) ∷ (0, 3) ∷ []) → IsNet net
ring_is_net net ports links hosts status tables apart =
    let used : ends_of net.topology.links ++ net.status.place ≡ (0, 2) ∷ (1, 1) ∷ (1, 2) ∷ (2, 1) ∷ (2, 2) ∷ (0, 1) ∷ (0, 3) ∷ [] = rw (status, links, hosts) refl in
    record {
      status = record {
        links = rw (status, links) refl;
        switches = rw (status, ports) refl;
        controls = rw (status, ports) refl;
        hosts = rw (status, hosts) refl;
        ends = rw (ports, links) (All-from_recursion (IsPort (3 ∷ 3 ∷ 3 ∷ [])) (ends_of ((0, 2, 1, 1) ∷ (1, 2, 2, 1) ∷ (2, 2, 0, 1) ∷ [])) (
          (lit< tt, omega arith, omega arith),
          (
            (lit< tt, omega arith, omega arith),
            (
              (lit< tt, omega arith, omega arith),
              ((lit< tt, omega arith, omega arith), ((lit< tt, omega arith, omega arith), ((lit< tt, omega arith, omega arith), tt))),
            ),
          ),
        ));
        places = rw (status, ports, hosts) (All-from_recursion (IsPort (3 ∷ 3 ∷ 3 ∷ [])) (places_of ((0, 3, 1) ∷ [])) ((lit< tt, omega arith, omega arith), tt));
        apart = subst (AllPairs {X = ℕ × ℕ} (λ one other. one ≢ other)) (sym used) apart;
        few_switches = rw ports (lit< tt);
        few_links = rw links (lit< tt);
        few_hosts = rw hosts (lit< tt);
      };
      tables = rw (ports, tables) refl;
    }

pub returns : goal.returns
returns c = ring_is_net _ (c.of.ensures ∙ c.in_ok-vec.ensures.items) (c.of-3.ensures ∙ c.in_ok-vec-3.ensures.items) (c.of-4.ensures ∙ c.in_ok-vec-4.ensures.items)
    c.in_ok-start.ensures (sym c.len.ensures ∙ c.if-len-ne3.false) (c.all_different.ensures.0 c.if-not-all_different.false)
