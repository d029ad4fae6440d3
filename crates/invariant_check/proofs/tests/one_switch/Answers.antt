-- The host's place is a port.
use Rattle.std.proofs.Common.{◌≡◌, ◌≢◌, ◌∙◌, ◌≤◌, ◌++◌, ℕ, AllPairs, [], ◌∷◌, length, refl, sym, subst, lit<, arith}
use Rattle.std.proofs.lemmas.List.Elements.{All-from_recursion}
use Rattle.topology.specs.Network.{IsPort, ends_of, places_of}
use Rattle.topology.specs.Status.{start_of}
use Rattle.event_world.specs.declared.net_state.NetState.{NetState}
use Rattle.invariant_check.specs.Network.{IsNet}
use Rattle.invariant_check.proofs.tests.one_switch.Goals as goal

alone : AllPairs {X = ℕ × ℕ} (λ one other. one ≢ other) ((0, 1) ∷ [])
alone i j d less within = absurd (omega arith)

one_is_net : (net : NetState) → net.topology.ports ≡ 2 ∷ [] → net.topology.links ≡ [] → net.topology.hosts ≡ (0, 1, 1) ∷ []
    → net.status ≡ start_of net.topology → length net.tables ≡ 1 → IsNet net
one_is_net net ports links hosts status tables =
    let used : ends_of net.topology.links ++ net.status.place ≡ (0, 1) ∷ [] = rw (status, links, hosts) refl in
    record {
      status = record {
        links = rw (status, links) refl;
        switches = rw (status, ports) refl;
        controls = rw (status, ports) refl;
        hosts = rw (status, hosts) refl;
        ends = rw (ports, links) (All-from_recursion (IsPort (2 ∷ [])) [] tt);
        places = rw (status, ports, hosts) (All-from_recursion (IsPort (2 ∷ [])) (places_of ((0, 1, 1) ∷ [])) ((lit< tt, omega arith, omega arith), tt));
        apart = subst (AllPairs {X = ℕ × ℕ} (λ one other. one ≢ other)) (sym used) alone;
        few_switches = rw ports (lit< tt);
        few_links = rw links (lit< tt);
        few_hosts = rw hosts (lit< tt);
      };
      tables = rw (ports, tables) refl;
    }

pub returns : goal.returns
returns c =
    let tables : length c.push.new.self ≡ 1 = rw (c.in_ok-push.ensures.ok, c.new-tables.ensures) refl in
    one_is_net _ (c.of.ensures ∙ c.in_ok-vec.ensures.items) c.new.ensures (c.of-3.ensures ∙ c.in_ok-vec-3.ensures.items) c.in_ok-start.ensures tables
