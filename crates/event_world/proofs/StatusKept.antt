-- The status that an input leaves is one of the network.
use Rattle.std.proofs.Common.{◌≡◌, ◌≢◌, ℕ, ◌+◌, ◌-◌, ◌==◌, ◌<◌, List, [], ◌∷◌, ◌++◌, length, get_or, set, filter_map, slice_get, slice_set, All, AllPairs, Some, None, Bool, true, false, is_none, if◌then◌else◌, inl, inr, refl, sym, ap, ◌∙◌, subst, arith, zero, suc}
use Rattle.std.specs.List.{cons_option, enumerate_from}
use Rattle.std.proofs.lemmas.Bool.{cases_eq, eq-eqb, and_from, both_ways}
use Rattle.std.proofs.lemmas.List.{length-set, get_or-set_same, get_or-set_other, set-append_right}
use Rattle.std.proofs.lemmas.List.Elements.{All-append, All-cons, All-nil, All-set}
use Rattle.machine_setup.specs.Setup.{IsFreePort}
use Rattle.topology.specs.Network.{IsPort, ends_of, is_place}
use Rattle.topology.specs.Status.{IsStatus, host_at, is_up}
use Rattle.topology.specs.declared.network.Topology.{Topology}
use Rattle.topology.specs.declared.status.Status.{Status}

-- ---- flags

pub up_set_same : (flags : List Bool) (n : ℕ) (up : Bool) → n < length flags → is_up (slice_set flags n up) n ≡ up
up_set_same [] n up within = absurd (omega arith)
up_set_same (flag ∷ flags) zero up within = refl
up_set_same (flag ∷ flags) (suc n) up within = up_set_same flags n up (omega arith)

pub up_set_other : (flags : List Bool) (n k : ℕ) (up : Bool) → (k ≡ n → ⊥) → is_up (slice_set flags n up) k ≡ is_up flags k
up_set_other [] n k up other = refl
up_set_other (flag ∷ flags) zero zero up other = absurd (other refl)
up_set_other (flag ∷ flags) zero (suc k) up other = refl
up_set_other (flag ∷ flags) (suc n) zero up other = refl
up_set_other (flag ∷ flags) (suc n) (suc k) up other = up_set_other flags n k up (λ e. other (ap suc e))

-- what is down after one thing came up was down before
pub down_before : (flags : List Bool) (n k : ℕ) → n < length flags → is_up (slice_set flags n true) k ≡ false → is_up flags k ≡ false
down_before flags n k within down = elim (cases_eq k n) [
  | inl same ↦ absurd (both_ways (is_up (slice_set flags n true) k) down (subst (λ (m : ℕ). is_up (slice_set flags n true) m ≡ true) (sym same) (up_set_same flags n true within)))
  | inr other ↦ sym (up_set_other flags n k true other) ∙ down
]

-- ---- places

-- the hosts at a port, where the hosts are counted from a number on
abbrev hosts_from : ℕ → ℕ → ℕ → List (ℕ × ℕ) → List ℕ
hosts_from s p first places = filter_map (λ host. if is_place s p host.1 then Some host.0 else None) (enumerate_from first places)

-- a place at which there is no host is the place of none
no_host_cons : (s p first : ℕ) (place : ℕ × ℕ) (places : List (ℕ × ℕ)) (here : Bool) → is_place s p place ≡ here → is_none (slice_get (hosts_from s p first (place ∷ places)) 0) ≡ true
    → (is_none (slice_get (hosts_from s p (first + 1) places) 0) ≡ true → All (λ place. place ≢ (s, p)) places) → All (λ place. place ≢ (s, p)) (place ∷ places)
no_host_cons s p first place places true e none rest =
    let some : is_none (slice_get (hosts_from s p first (place ∷ places)) 0) ≡ false = rw e refl in
    absurd (both_ways (is_none (slice_get (hosts_from s p first (place ∷ places)) 0)) some none)
no_host_cons s p first place places false e none rest =
    All-cons (λ place. place ≢ (s, p)) place places
    (λ same. both_ways (is_place s p place) e (subst (λ (other : ℕ × ℕ). is_place s p other ≡ true) (sym same) (and_from (s == s) (p == p) (eq-eqb s s refl) (eq-eqb p p refl))))
    (rest (subst (λ (b : Bool). is_none (slice_get (cons_option (if b then Some first else None) (hosts_from s p (first + 1) places)) 0) ≡ true) e none))

no_host : (s p first : ℕ) (places : List (ℕ × ℕ)) → is_none (slice_get (hosts_from s p first places) 0) ≡ true → All (λ place. place ≢ (s, p)) places
no_host s p first [] none = All-nil (λ (place : ℕ × ℕ). place ≢ (s, p))
no_host s p first (place ∷ places) none = no_host_cons s p first place places (is_place s p place) refl none (no_host s p (first + 1) places)

-- elements that all differ still do when one of them becomes something that none of them is
apart_set : {A : Type 0} (xs : List A) (n : ℕ) (new : A) → AllPairs (λ one other. one ≢ other) xs → All (λ x. x ≢ new) xs → AllPairs (λ one other. one ≢ other) (set xs n new)
apart_set xs n new apart free i j d before within same =
    let long = length-set xs n new in
    elim (cases_eq i n) [
      | inl first ↦
          let now = subst (λ m. get_or (set xs n new) m d ≡ new) (sym first) (get_or-set_same xs n new d (omega arith)) in
          let other = get_or-set_other xs n j new d (λ e. omega arith) in
          free j d (omega arith) (sym other ∙ sym same ∙ now)
      | inr first ↦ elim (cases_eq j n) [
        | inl second ↦
            let now = subst (λ m. get_or (set xs n new) m d ≡ new) (sym second) (get_or-set_same xs n new d (omega arith)) in
            let other = get_or-set_other xs n i new d first in
            free i d (omega arith) (sym other ∙ same ∙ now)
        | inr second ↦ apart i j d before (omega arith) (sym (get_or-set_other xs n i new d first) ∙ same ∙ get_or-set_other xs n j new d second)
      ]
    ]

-- ---- a status with something changed

-- flags may be other ones, as many as there were
flags_set : (topology : Topology) (status : Status) (links switches controls : List Bool) → IsStatus topology status → length links ≡ length status.link_up → length switches ≡ length status.switch_up → length controls ≡ length status.control_up
    → IsStatus topology (record status { link_up = links; switch_up = switches; control_up = controls })
flags_set topology status links switches controls is same_links same_switches same_controls = record {
  links = same_links ∙ is.links;
  switches = same_switches ∙ is.switches;
  controls = same_controls ∙ is.controls;
  hosts = is.hosts;
  ends = is.ends;
  places = is.places;
  apart = is.apart;
  few_switches = is.few_switches;
  few_links = is.few_links;
  few_hosts = is.few_hosts;
}

pub link_set : (topology : Topology) (status : Status) (link : ℕ) (up : Bool) → IsStatus topology status → IsStatus topology (record status { link_up = slice_set status.link_up link up })
link_set topology status link up is = flags_set topology status (slice_set status.link_up link up) status.switch_up status.control_up is (length-set status.link_up link up) refl refl

pub switch_set : (topology : Topology) (status : Status) (s : ℕ) (up : Bool) → IsStatus topology status → IsStatus topology (record status { switch_up = slice_set status.switch_up s up })
switch_set topology status s up is = flags_set topology status status.link_up (slice_set status.switch_up s up) status.control_up is refl (length-set status.switch_up s up) refl

pub control_set : (topology : Topology) (status : Status) (s : ℕ) (up : Bool) → IsStatus topology status → IsStatus topology (record status { control_up = slice_set status.control_up s up })
control_set topology status s up is = flags_set topology status status.link_up status.switch_up (slice_set status.control_up s up) is refl refl (length-set status.control_up s up)

back : (m n : ℕ) → m + n - m ≡ n
back m n = omega arith

-- a host at a port at which no link ends and no host is
pub place_set : (topology : Topology) (status : Status) (host : ℕ) (place : ℕ × ℕ) → IsStatus topology status → IsFreePort topology place → is_none (host_at status place.0 place.1) ≡ true
    → IsStatus topology (record status { place = slice_set status.place host place })
place_set topology status host place is free none =
    let ends = ends_of topology.links in
    let empty = no_host place.0 place.1 0 status.place none in
    let apart = apart_set (ends ++ status.place) (length ends + host) place is.apart (All-append (λ other. other ≢ place) ends status.place free.1 empty) in
    let moved : set (ends ++ status.place) (length ends + host) place ≡ ends ++ set status.place host place =
    set-append_right ends status.place (length ends) (length ends + host) place refl (omega arith) ∙ ap (λ n. ends ++ set status.place n place) (back (length ends) host) in record {
      links = is.links;
      switches = is.switches;
      controls = is.controls;
      hosts = length-set status.place host place ∙ is.hosts;
      ends = is.ends;
      places = All-set (IsPort topology.ports) status.place host place free.0 is.places;
      apart = subst (λ (all : List (ℕ × ℕ)). AllPairs (λ one other. one ≢ other) all) moved apart;
      few_switches = is.few_switches;
      few_links = is.few_links;
      few_hosts = is.few_hosts;
    }
