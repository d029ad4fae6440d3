-- The ring is wired: each port has at most one thing at it.
use Rattle.std.proofs.Common.{arith, zero, suc, ◌≡◌, ◌≢◌, ℕ, ◌+◌, ◌%◌, ◌<◌, ◌≤◌, List, ◌∷◌, ◌++◌, map, replicate, refl, ap, ◌∙◌, All, AllPairs, inl, inr}
use Rattle.std.specs.List.{range_with_len}
use Rattle.std.proofs.Math.Nat.{mod-eq_of_lt, mod_self}
use Rattle.std.proofs.lemmas.Bool.{cases_lt}
use Rattle.std.proofs.lemmas.List.{length-replicate, get_or-replicate}
use Rattle.std.proofs.lemmas.List.Elements.{All-append, All-cons, All-nil, All-weaker}
use Rattle.std.proofs.lemmas.List.Kept.{AllPairs-cons}
use Rattle.std.proofs.lemmas.Nat.{mod_below}
use Rattle.topology.specs.Network.{IsPort, ends_of, places_of}
use Rattle.scenario_gen.specs.Ring.{host_of, link_of}
use Rattle.scenario_gen.proofs.Numbers.{all_by, map_twice, pairs_by}

-- ---- ports

is_port : (size s p : ℕ) → s < size → 1 ≤ p → p ≤ 3 → IsPort (replicate size 3) (s, p)
is_port size s p there least most = (rw length-replicate there, least, rw get_or-replicate most)

-- two switches have two next ones
next_differ : (size s t : ℕ) → s < t → t < size → (s + 1) % size ≢ (t + 1) % size
next_differ size s t order within same =
    let first : (s + 1) % size ≡ s + 1 = mod-eq_of_lt (omega arith) in
    elim (cases_lt (t + 1) size) [
      | inl less ↦ let second : (t + 1) % size ≡ t + 1 = mod-eq_of_lt less in absurd (omega arith)
      | inr last ↦ let whole : t + 1 ≡ size = omega arith in
          let second : (t + 1) % size ≡ 0 = rw whole (mod_self size) in absurd (omega arith)
    ]

-- ---- the ends of links

-- the ends of some links, from that of a switch on
abbrev ends_from : ℕ → ℕ → ℕ → List (ℕ × ℕ)
ends_from size s n = ends_of (map (link_of size) (range_with_len s n))

all_ends : (P : ℕ × ℕ → Type 0) (size s n : ℕ) → ((t : ℕ) → s ≤ t → t < s + n → P (t, 2) × P ((t + 1) % size, 1)) → All P (ends_from size s n)
all_ends P size s zero holds = All-nil P
all_ends P size s (suc n) holds =
    let here = holds s (omega arith) (omega arith) in
    let rest : All P (ends_from size (s + 1) n) = all_ends P size (s + 1) n (λ t least less. holds t (omega arith) (omega arith)) in
    All-cons P (s, 2) ((((s + 1) % size), 1) ∷ ends_from size (s + 1) n) here.0
    (All-cons P ((s + 1) % size, 1) (ends_from size (s + 1) n) here.1 rest)

-- places at ports of two numbers are two
other_port : (s p t q : ℕ) → p ≢ q → ◌≢◌ {A = ℕ × ℕ} (s, p) (t, q)
other_port s p t q differ same = differ (ap (λ (place : ℕ × ℕ). place.1) same)

-- and of two switches
other_switch : (s p t q : ℕ) → s ≢ t → ◌≢◌ {A = ℕ × ℕ} (s, p) (t, q)
other_switch s p t q differ same = differ (ap (λ (place : ℕ × ℕ). place.0) same)

-- no end of a link is at a host's port, and no two ends are at one port
apart_from : (size s n : ℕ) (places : List (ℕ × ℕ)) → All (λ place. place.1 ≡ 3) places → AllPairs (λ one other. one ≢ other) places
    → s + n ≤ size → AllPairs (λ one other. one ≢ other) (ends_from size s n ++ places)
apart_from size s zero places hosts apart within = apart
apart_from size s (suc n) places hosts apart within =
    let next = (s + 1) % size in
    let rest = ends_from size (s + 1) n in
    let third : (t p : ℕ) → p ≢ 3 → All (λ place. ◌≢◌ {A = ℕ × ℕ} (t, p) place) places =
    λ t p differ. All-weaker (λ (place : ℕ × ℕ). place.1 ≡ 3) (λ place. (t, p) ≢ place)
    (λ place is same. differ (ap (λ (one : ℕ × ℕ). one.1) same ∙ is)) places hosts in
    let second : All (λ place. ◌≢◌ {A = ℕ × ℕ} (s, 2) place) rest =
    all_ends (λ place. (s, 2) ≢ place) size (s + 1) n
    (λ t least less. (other_switch s 2 t 2 (omega arith), other_port s 2 ((t + 1) % size) 1 (omega arith))) in
    let first : All (λ place. ◌≢◌ {A = ℕ × ℕ} (next, 1) place) rest =
    all_ends (λ place. (next, 1) ≢ place) size (s + 1) n
    (λ t least less. (other_port next 1 t 2 (omega arith), other_switch next 1 ((t + 1) % size) 1 (next_differ size s t (omega arith) (omega arith)))) in
    AllPairs-cons (λ one other. one ≢ other) (s, 2) ((next, 1) ∷ (rest ++ places))
    (All-cons (λ place. (s, 2) ≢ place) (next, 1) (rest ++ places) (other_port s 2 next 1 (omega arith))
    (All-append (λ place. (s, 2) ≢ place) rest places second (third s 2 (omega arith))))
    (AllPairs-cons (λ one other. one ≢ other) (next, 1) (rest ++ places)
    (All-append (λ place. (next, 1) ≢ place) rest places first (third next 1 (omega arith)))
    (apart_from size (s + 1) n places hosts apart (omega arith)))

-- ---- the whole

pub ends_are_ports : (size : ℕ) → 3 ≤ size → All (IsPort (replicate size 3)) (ends_of (map (link_of size) (range_with_len 0 size)))
ends_are_ports size least = all_ends (IsPort (replicate size 3)) size 0 size
    (λ s first less. (
      is_port size s 2 (omega arith) (omega arith) (omega arith),
      is_port size ((s + 1) % size) 1 (mod_below (s + 1) size (omega arith)) (omega arith) (omega arith),
    ))

pub places_are_ports : (size : ℕ) → All (IsPort (replicate size 3)) (places_of (map host_of (range_with_len 0 size)))
places_are_ports size = rw map_twice
    (all_by (IsPort (replicate size 3)) (λ s. (s, 3)) size (λ s less. is_port size s 3 less (omega arith) (omega arith)))

pub apart : (size : ℕ) → AllPairs (λ one other. one ≢ other)
    (ends_of (map (link_of size) (range_with_len 0 size)) ++ places_of (map host_of (range_with_len 0 size)))
apart size = rw (map_twice {Z = ℕ × ℕ} (λ (host : ℕ × ℕ × ℕ). (host.0, host.1)) host_of (range_with_len 0 size))
    (apart_from size 0 size (map (λ s. (s, 3)) (range_with_len 0 size))
    (all_by (λ (place : ℕ × ℕ). place.1 ≡ 3) (λ s. (s, 3)) size (λ s less. refl))
    (pairs_by (λ one other. one ≢ other) (λ s. (s, 3)) size (λ s t order less. other_switch s 3 t 3 (omega arith)))
    (omega arith))

pub addresses_differ : (size : ℕ) → AllPairs (λ one other. one ≢ other) (map (λ (host : ℕ × ℕ × ℕ). host.2) (map host_of (range_with_len 0 size)))
addresses_differ size = rw map_twice
    (pairs_by (λ (one other : ℕ). one ≢ other) (λ s. s + 1) size (λ s t order less same. absurd (omega arith)))
