-- Which numbers the pools have from which an actor takes.
use Rattle.std.proofs.Common.{◌≡◌, ◌∙◌, ◌⊎◌, ℕ, ◌+◌, ◌-◌, ◌*◌, ◌<◌, ◌≤◌, true, List, [], ◌∷◌, length, slice_get, Some, zero, suc, ap, arith, inl, inr, refl, subst, sym}
use Rattle.std.specs.Prelude.{slice_index_or}
use Rattle.std.proofs.lemmas.Bool.{eq-eqb, eqb-true}
use Rattle.std.proofs.lemmas.List.{get_or_default}
use Rattle.std.proofs.lemmas.List.Sums.{sum_by_more_le}
use Rattle.std.proofs.lemmas.Nat.{mul-le}
use Rattle.pool_book.specs.declared.actor.Actor.{Actor}
use Rattle.pool_book.specs.declared.actor.Actor.TheVariants as actor
use Rattle.pool_book.specs.declared.name.PoolName.{PoolName}
use Rattle.pool_book.specs.declared.name.PoolName.TheVariants.{Ctl, Pkt, Note, App, Admin, Recv}
use Rattle.pool_book.specs.Names.{is_same_actor, names, taker}
use Rattle.pool_book.specs.Places.{IsName, Network, Reaches, place, port_start, note_start, app_start, admin_start, recv_start}
use Rattle.pool_book.specs.Order.{Named, named, placed}

-- what stands at the place of a name is that name
same_there : (net : Network) (k : ℕ) (name other : PoolName) → slice_get (names net.ports net.controllers net.hosts) k ≡ Some name → IsName net.ports net.controllers net.hosts other → k ≡ place net.ports net.controllers other → name ≡ other
same_there net k name other e is at =
    let there = placed net.ports net.controllers net.hosts other is in
    let here : slice_get (names net.ports net.controllers net.hosts) k ≡ Some other = ap (slice_get (names net.ports net.controllers net.hosts)) at ∙ there in
    cc

-- an actor that takes from no pool
pub nowhere : (net : Network) (who : Actor) → ((k : ℕ) (name : PoolName) → slice_get (names net.ports net.controllers net.hosts) k ≡ Some name → is_same_actor (taker name) who ≡ true → ⊥) → Reaches net who 0 0 0 0 0 0
nowhere net who none = record {
  one = omega arith;
  two = omega arith;
  three = omega arith;
  first = λ k name at from below. absurd (omega arith);
  second = λ k name at from below. absurd (omega arith);
  third = λ k name at from below. absurd (omega arith);
  others = λ k name at own. absurd (none k name at own);
}

script_takes : (name : PoolName) → is_same_actor (taker name) actor.Script ≡ true → ⊥
script_takes (Ctl s) e = absurd cc
script_takes (Pkt s p) e = absurd cc
script_takes (Note s) e = absurd cc
script_takes (App c s) e = absurd cc
script_takes (Admin c) e = absurd cc
script_takes (Recv h) e = absurd cc

pub script_nowhere : (net : Network) → Reaches net actor.Script 0 0 0 0 0 0
script_nowhere net = nowhere net actor.Script (λ k name at own. script_takes name own)

-- ---- a switch

-- a switch with a port is one of the network
is_switch : (ports : List ℕ) (s p : ℕ) → 0 < p → p ≤ slice_index_or ports s 0 → s < length ports
is_switch [] s p above within = absurd (omega arith)
is_switch (count ∷ ports) zero p above within = omega arith
is_switch (count ∷ ports) (suc s) p above within = let below = is_switch ports s p above within in omega arith

switch_takes : (net : Network) (s : ℕ) (name : PoolName) → IsName net.ports net.controllers net.hosts name → is_same_actor (taker name) (actor.Switch s) ≡ true → s < length net.ports
switch_takes net s (Ctl t) is e = let same = eqb-true t s e in omega arith
switch_takes net s (Pkt t p) is e = let same = eqb-true t s e in let below = is_switch net.ports t p is.0 is.1 in omega arith
switch_takes net s (Note t) is e = let same = eqb-true t s e in omega arith
switch_takes net s (App c t) is e = absurd cc
switch_takes net s (Admin c) is e = absurd cc
switch_takes net s (Recv h) is e = absurd cc

pub switch_nowhere : (net : Network) (s : ℕ) → length net.ports ≤ s → Reaches net (actor.Switch s) 0 0 0 0 0 0
switch_nowhere net s past = nowhere net (actor.Switch s) (λ k name at own. let below = switch_takes net s name (named net.ports net.controllers net.hosts k name at).0 own in absurd (omega arith))

switch_others : (ports : List ℕ) (controllers hosts s k : ℕ) (name : PoolName) → Named ports controllers hosts name k → is_same_actor (taker name) (actor.Switch s) ≡ true → ((s ≤ k) × (k < s + 1)) ⊎ (((port_start ports s ≤ k) × (k < port_start ports s + slice_index_or ports s 0)) ⊎ ((note_start ports + s ≤ k) × (k < note_start ports + s + 1)))
switch_others ports controllers hosts s k (Ctl t) (is, at) e = let same = eqb-true t s e in inl (omega arith, omega arith)
switch_others ports controllers hosts s k (Pkt t p) (is, at) e =
    let same = eqb-true t s e in
    let here : k ≡ port_start ports s + (p - 1) = subst (λ r. k ≡ port_start ports r + (p - 1)) same at in
    let within : p ≤ slice_index_or ports s 0 = subst (λ r. p ≤ slice_index_or ports r 0) same is.1 in
    let above = is.0 in
    inr (inl (omega arith, omega arith))
switch_others ports controllers hosts s k (Note t) (is, at) e = let same = eqb-true t s e in inr (inr (omega arith, omega arith))
switch_others ports controllers hosts s k (App c t) there e = absurd cc
switch_others ports controllers hosts s k (Admin c) there e = absurd cc
switch_others ports controllers hosts s k (Recv h) there e = absurd cc

-- an actor is the same as itself, by the name of a pool that it takes from
switch_own : (s : ℕ) (name other : PoolName) → name ≡ other → taker other ≡ actor.Switch s → is_same_actor (taker name) (actor.Switch s) ≡ true
switch_own s name other same own = rw (same, own) (eq-eqb s s refl)

pub switch_reaches : (net : Network) (s a b count start end last after : ℕ) → s < length net.ports → a ≡ s → b ≡ s + 1 → count ≡ slice_index_or net.ports s count → start ≡ port_start net.ports s → end ≡ start + count → last ≡ note_start net.ports + s → after ≡ last + 1 → Reaches net (actor.Switch s) a b start end last after
switch_reaches net s a b count start end last after below is_a is_b is_count is_start is_end is_last is_after =
    let many : count ≡ slice_index_or net.ports s 0 = is_count ∙ get_or_default net.ports s count 0 below in
    let all = sum_by_more_le (λ (x : ℕ). x) net.ports s 0 below in
    record {
      one = omega arith;
      two = omega arith;
      three = omega arith;
      first = λ k name there from to. switch_own s name (Ctl s) (same_there net k name (Ctl s) there below (omega arith)) refl;
      second = λ k name there from to.
          let port : port_start net.ports s + (k - start + 1 - 1) ≡ k = omega arith in
          switch_own s name (Pkt s (k - start + 1)) (same_there net k name (Pkt s (k - start + 1)) there (omega arith, omega arith) (sym port)) refl;
      third = λ k name there from to. switch_own s name (Note s) (same_there net k name (Note s) there below (omega arith)) refl;
      others = λ k name there own. elim (switch_others net.ports net.controllers net.hosts s k name (named net.ports net.controllers net.hosts k name there) own) [
        | inl (from, to) ↦ inl (omega arith, omega arith)
        | inr (inl (from, to)) ↦ inr (inl (omega arith, omega arith))
        | inr (inr (from, to)) ↦ inr (inr (omega arith, omega arith))
      ];
    }

-- ---- a controller

controller_takes : (net : Network) (c : ℕ) (name : PoolName) → IsName net.ports net.controllers net.hosts name → is_same_actor (taker name) (actor.Controller c) ≡ true → c < net.controllers
controller_takes net c (Ctl t) is e = absurd cc
controller_takes net c (Pkt t p) is e = absurd cc
controller_takes net c (Note t) is e = absurd cc
controller_takes net c (App d t) is e = let same = eqb-true d c e in let below = is.0 in omega arith
controller_takes net c (Admin d) is e = let same = eqb-true d c e in omega arith
controller_takes net c (Recv h) is e = absurd cc

pub controller_nowhere : (net : Network) (c : ℕ) → net.controllers ≤ c → Reaches net (actor.Controller c) 0 0 0 0 0 0
controller_nowhere net c past = nowhere net (actor.Controller c) (λ k name at own. let below = controller_takes net c name (named net.ports net.controllers net.hosts k name at).0 own in absurd (omega arith))

controller_others : (ports : List ℕ) (controllers hosts c k : ℕ) (name : PoolName) → Named ports controllers hosts name k → is_same_actor (taker name) (actor.Controller c) ≡ true → ((app_start ports + c * length ports ≤ k) × (k < app_start ports + c * length ports + length ports)) ⊎ ((admin_start ports controllers + c ≤ k) × (k < admin_start ports controllers + c + 1))
controller_others ports controllers hosts c k (Ctl t) there e = absurd cc
controller_others ports controllers hosts c k (Pkt t p) there e = absurd cc
controller_others ports controllers hosts c k (Note t) there e = absurd cc
controller_others ports controllers hosts c k (App d t) (is, at) e =
    let same = eqb-true d c e in
    let here : k ≡ app_start ports + (c * length ports + t) = subst (λ r. k ≡ app_start ports + (r * length ports + t)) same at in
    let within = is.1 in
    inl (omega arith, omega arith)
controller_others ports controllers hosts c k (Admin d) (is, at) e = let same = eqb-true d c e in inr (omega arith, omega arith)
controller_others ports controllers hosts c k (Recv h) there e = absurd cc

controller_own : (c : ℕ) (name other : PoolName) → name ≡ other → taker other ≡ actor.Controller c → is_same_actor (taker name) (actor.Controller c) ≡ true
controller_own c name other same own = rw (same, own) (eq-eqb c c refl)

pub controller_reaches : (net : Network) (c start end last after : ℕ) → c < net.controllers → start ≡ app_start net.ports + c * length net.ports → end ≡ start + length net.ports → last ≡ admin_start net.ports net.controllers + c → after ≡ last + 1 → Reaches net (actor.Controller c) 0 0 start end last after
controller_reaches net c start end last after below is_start is_end is_last is_after =
    let all : (c + 1) * length net.ports ≤ net.controllers * length net.ports = mul-le (c + 1) (length net.ports) net.controllers (length net.ports) (omega arith) (omega arith) in
    record {
      one = omega arith;
      two = omega arith;
      three = omega arith;
      first = λ k name there from to. absurd (omega arith);
      second = λ k name there from to.
          let app : app_start net.ports + (c * length net.ports + (k - start)) ≡ k = omega arith in
          controller_own c name (App c (k - start)) (same_there net k name (App c (k - start)) there (below, omega arith) (sym app)) refl;
      third = λ k name there from to. controller_own c name (Admin c) (same_there net k name (Admin c) there below (omega arith)) refl;
      others = λ k name there own. elim (controller_others net.ports net.controllers net.hosts c k name (named net.ports net.controllers net.hosts k name there) own) [
        | inl (from, to) ↦ inr (inl (omega arith, omega arith))
        | inr (from, to) ↦ inr (inr (omega arith, omega arith))
      ];
    }

-- ---- a host

host_takes : (net : Network) (h k : ℕ) (name : PoolName) → Named net.ports net.controllers net.hosts name k → is_same_actor (taker name) (actor.Host h) ≡ true → (h < net.hosts) × (k ≡ recv_start net.ports net.controllers + h)
host_takes net h k (Ctl t) there e = absurd cc
host_takes net h k (Pkt t p) there e = absurd cc
host_takes net h k (Note t) there e = absurd cc
host_takes net h k (App d t) there e = absurd cc
host_takes net h k (Admin d) there e = absurd cc
host_takes net h k (Recv i) (is, at) e = let same = eqb-true i h e in (omega arith, omega arith)

pub host_nowhere : (net : Network) (h : ℕ) → net.hosts ≤ h → Reaches net (actor.Host h) 0 0 0 0 0 0
host_nowhere net h past = nowhere net (actor.Host h) (λ k name at own. let below = (host_takes net h k name (named net.ports net.controllers net.hosts k name at) own).0 in absurd (omega arith))

host_own : (h : ℕ) (name other : PoolName) → name ≡ other → taker other ≡ actor.Host h → is_same_actor (taker name) (actor.Host h) ≡ true
host_own h name other same own = rw (same, own) (eq-eqb h h refl)

pub host_reaches : (net : Network) (h last after : ℕ) → h < net.hosts → last ≡ recv_start net.ports net.controllers + h → after ≡ last + 1 → Reaches net (actor.Host h) 0 0 0 0 last after
host_reaches net h last after below is_last is_after = record {
  one = omega arith;
  two = omega arith;
  three = omega arith;
  first = λ k name there from to. absurd (omega arith);
  second = λ k name there from to. absurd (omega arith);
  third = λ k name there from to. host_own h name (Recv h) (same_there net k name (Recv h) there below (omega arith)) refl;
  others = λ k name there own. let at = (host_takes net h k name (named net.ports net.controllers net.hosts k name there) own).1 in inr (inr (omega arith, omega arith));
}
