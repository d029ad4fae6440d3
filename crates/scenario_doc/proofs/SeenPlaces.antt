-- What a set of places has after a step of a walk along a network.
use Rattle.std.proofs.Common.{arith, cond, ◌≡◌, ℕ, ◌+◌, ◌<◌, Bool, true, false, ◌&&◌, ◌||◌, List, [], ◌∷◌, ◌++◌, length, take, get_or, refl, eqb}
use Rattle.std.specs.BTreeSet.{BTreeSet}
use Rattle.std.specs.List.{list_any}
use Rattle.std.specs.Ordering.{is_eq, nat_cmp, ordering_then}
use Rattle.std.specs.declared.cmp.Ordering.{Ordering}
use Rattle.std.specs.declared.cmp.Ordering.TheVariants.{Less, Equal, Greater}
use Rattle.std.proofs.lemmas.Bool.Decides.{nat_tests}
use Rattle.std.proofs.lemmas.List.{map_more, take_more}
use Rattle.std.proofs.lemmas.List.Concat.{flat_map-append}
use Rattle.std.proofs.lemmas.List.Folds.{list_any-append}
use Rattle.topology.specs.Network.{ends_of, is_place, places_of}
use Rattle.scenario_doc.specs.Taken.{HasAddresses, HasPlaces, has_address, has_place}

or_push : (a b : Bool) → (a || (b || false)) ≡ (b || a)
or_push true true = refl
or_push true false = refl
or_push false true = refl
or_push false false = refl

or_ends : (e a b q : Bool) → ((e || (a || (b || false))) || q) ≡ (b || (a || (e || q)))
or_ends true true true q = refl
or_ends true true false q = refl
or_ends true false true q = refl
or_ends true false false q = refl
or_ends false true true q = refl
or_ends false true false q = refl
or_ends false false true q = refl
or_ends false false false q = refl

-- an element at the end of a list may be asked first
pub any_push : {X : Type 0} (f : X → Bool) (xs : List X) (x : X) → list_any f (xs ++ x ∷ []) ≡ (f x || list_any f xs)
any_push f xs x = rw (list_any-append f xs (x ∷ [])) (or_push (list_any f xs) (f x))

-- a host's place beside those of the hosts before it
more_hosts : (hosts : List (ℕ × ℕ × ℕ)) (i : ℕ) (d : ℕ × ℕ × ℕ) (before after : BTreeSet (ℕ × ℕ)) → i < length hosts
    → HasPlaces before (places_of (take i hosts))
    → ((s p : ℕ) → has_place after s p ≡ (is_place s p ((get_or hosts i d).0, (get_or hosts i d).1) || has_place before s p))
    → HasPlaces after (places_of (take (i + 1) hosts))
more_hosts hosts i d before after h had added s p =
    rw (map_more {X = ℕ × ℕ × ℕ} {Y = ℕ × ℕ} (λ host. (host.0, host.1)) hosts i d h, any_push (is_place s p) (places_of (take i hosts)) ((get_or hosts i d).0, (get_or hosts i d).1), ← had s p) (added s p)

-- a host's address beside those of the hosts before it
more_addresses : (hosts : List (ℕ × ℕ × ℕ)) (i : ℕ) (d : ℕ × ℕ × ℕ) (before after : BTreeSet ℕ) → i < length hosts
    → HasAddresses before (take i hosts)
    → ((mac : ℕ) → has_address after mac ≡ (eqb (get_or hosts i d).2 mac || has_address before mac))
    → HasAddresses after (take (i + 1) hosts)
more_addresses hosts i d before after h had added mac =
    rw (take_more hosts i d h, any_push (λ (host : ℕ × ℕ × ℕ). eqb host.2 mac) (take i hosts) (get_or hosts i d), ← had mac) (added mac)

-- a link's ends beside those of the links before it
more_links : (links : List (ℕ × ℕ × ℕ × ℕ)) (i : ℕ) (d : ℕ × ℕ × ℕ × ℕ) (places : List (ℕ × ℕ)) (before middle after : BTreeSet (ℕ × ℕ)) → i < length links
    → HasPlaces before (ends_of (take i links) ++ places)
    → ((s p : ℕ) → has_place middle s p ≡ (is_place s p ((get_or links i d).0, (get_or links i d).1) || has_place before s p))
    → ((s p : ℕ) → has_place after s p ≡ (is_place s p ((get_or links i d).2, (get_or links i d).3) || has_place middle s p))
    → HasPlaces after (ends_of (take (i + 1) links) ++ places)
more_links links i d places before middle after h had first second s p =
    let f = λ (place : ℕ × ℕ). is_place s p place in
    let link = get_or links i d in
    let ends : ends_of (take (i + 1) links) ≡ ends_of (take i links) ++ (link.0, link.1) ∷ (link.2, link.3) ∷ [] =
    rw (take_more links i d h) (flat_map-append (λ (link : ℕ × ℕ × ℕ × ℕ). (link.0, link.1) ∷ (link.2, link.3) ∷ []) (take i links) (link ∷ [])) in
    rw (
      ends,
      list_any-append f (ends_of (take i links) ++ (link.0, link.1) ∷ (link.2, link.3) ∷ []) places,
      list_any-append f (ends_of (take i links)) ((link.0, link.1) ∷ (link.2, link.3) ∷ []),
      or_ends (list_any f (ends_of (take i links))) (f (link.0, link.1)) (f (link.2, link.3)) (list_any f places),
      ← list_any-append f (ends_of (take i links)) places,
      ← had s p,
      ← first s p,
    ) (second s p)

-- ---- one more place

is_eq-nat_cmp : (a b : ℕ) → is_eq (nat_cmp a b) ≡ eqb a b
is_eq-nat_cmp a b = grind (arith, nat_tests)

is_eq-then : (o next : Ordering) → is_eq (ordering_then o next) ≡ (is_eq o && is_eq next)
is_eq-then Less next = refl
is_eq-then Equal next = refl
is_eq-then Greater next = refl

or_cond : (a b : Bool) → cond a true b ≡ (a || b)
or_cond true b = refl
or_cond false b = refl

-- a set that is asked for a place after another one was put into it
pub place_added : (s p a b : ℕ) (before after : Bool) → after ≡ cond (is_eq (ordering_then (nat_cmp s a) (nat_cmp p b))) true before
    → after ≡ (is_place a b (s, p) || before)
place_added s p a b before after e =
    rw (is_eq-then (nat_cmp s a) (nat_cmp p b), is_eq-nat_cmp s a, is_eq-nat_cmp p b, or_cond (eqb s a && eqb p b) before) at e

-- ---- the same where the list that is walked along is another one that equals it

pub one_more_host : (hosts items : List (ℕ × ℕ × ℕ)) (i : ℕ) (d : ℕ × ℕ × ℕ) (before after : BTreeSet (ℕ × ℕ)) → items ≡ hosts → i < length items
    → HasPlaces before (places_of (take i hosts))
    → ((s p : ℕ) → has_place after s p ≡ (is_place s p ((get_or items i d).0, (get_or items i d).1) || has_place before s p))
    → HasPlaces after (places_of (take (i + 1) hosts))
one_more_host hosts items i d before after e h had added = rw (← e) (more_hosts items i d before after h (rw e had) added)

pub one_more_address : (hosts items : List (ℕ × ℕ × ℕ)) (i : ℕ) (d : ℕ × ℕ × ℕ) (before after : BTreeSet ℕ) → items ≡ hosts → i < length items
    → HasAddresses before (take i hosts)
    → ((mac : ℕ) → has_address after mac ≡ (eqb (get_or items i d).2 mac || has_address before mac))
    → HasAddresses after (take (i + 1) hosts)
one_more_address hosts items i d before after e h had added = rw (← e) (more_addresses items i d before after h (rw e had) added)

pub one_more_link : (links items : List (ℕ × ℕ × ℕ × ℕ)) (i : ℕ) (d : ℕ × ℕ × ℕ × ℕ) (places : List (ℕ × ℕ)) (before middle after : BTreeSet (ℕ × ℕ)) → items ≡ links → i < length items
    → HasPlaces before (ends_of (take i links) ++ places)
    → ((s p : ℕ) → has_place middle s p ≡ (is_place s p ((get_or items i d).0, (get_or items i d).1) || has_place before s p))
    → ((s p : ℕ) → has_place after s p ≡ (is_place s p ((get_or items i d).2, (get_or items i d).3) || has_place middle s p))
    → HasPlaces after (ends_of (take (i + 1) links) ++ places)
one_more_link links items i d places before middle after e h had first second =
    rw (← e) (more_links items i d places before middle after h (rw e had) first second)
