-- Which switches a round finds, and that the queue has room for them.
use Rattle.std.proofs.Common.{◌≡◌, ◌∙◌, ℕ, ◌+◌, ◌<◌, ◌≤◌, ◌==◌, ◌++◌, ◌⊎◌, Bool, true, false, cond, List, [], ◌∷◌, Option, Some, None, Contains, get_or, is_none, is_some, length, nat_lt, not, replicate, set, ap, arith, inl, inr, refl, sym, subst, zero, suc}
use Rattle.std.proofs.lemmas.Bool.{and_parts, cases_Bool, cases_eq, eqb-true}
use Rattle.std.proofs.lemmas.List.{append-nil, append_assoc, length-set}
use Rattle.std.proofs.lemmas.List.Elements.{Contains-append_cases, Contains-append_left, Contains-append_right}
use Rattle.route_app.specs.Paths.{Exit}
use Rattle.route_app.specs.Rounds.{HasRoom, after_round, at_home, is_better, newly_found, unknown, visited}
use Rattle.route_app.specs.declared.queue.Queue.{Queue}
use Rattle.route_app.specs.declared.reach.Reach.{Reach}
use Rattle.route_app.proofs.Levels.{IsAt, IsBelow, IsUpTo, each_visited, first_here, first_other, length_first, length_visited, seen, visited_here}
use Rattle.route_app.proofs.Members.{contains_cases, contains_here, contains_none, contains_there}

-- These are the switches that are so far off, and no known path is longer.
pub record IsFront (level : ℕ) (row : List (Option Reach)) (front : List ℕ) : Type 0 where
  pub all : (x : ℕ) → x < length row → IsAt level (get_or row x None) → Contains front x
  pub only : (x : ℕ) → Contains front x → (x < length row) × IsAt level (get_or row x None)
  pub below : IsBelow level row

abbrev AreFrom : ℕ → List Exit → Type 0
AreFrom size exits = (e : Exit) → Contains exits e → e.0 < size

-- with the switch of a way out, where it is new
abbrev with_new : Exit → List (Option Reach) → List ℕ → List ℕ
with_new e row next = cond (is_none (get_or row e.0 None)) (next ++ e.0 ∷ []) next

-- ---- one way out

comes_from : (round p : ℕ) (o : Option Reach) → IsAt (round + 1) (seen round p o) → (is_none o ≡ true) ⊎ IsAt (round + 1) o
comes_from round p None at = inl refl
comes_from round p (Some reach) at =
    elim (cases_Bool (is_better (round + 1) p (Some reach))) [
      | inl test ↦ inr (eqb-true reach.links (round + 1) (and_parts (reach.links == round + 1) (nat_lt p reach.port) test).0)
      | inr test ↦ inr (subst (λ t. IsAt (round + 1) (cond t (Some (record { links = round + 1; port = p })) (Some reach))) test at)
    ]

stays_next : (round p : ℕ) (o : Option Reach) → (is_none o ≡ true) ⊎ IsAt (round + 1) o → IsAt (round + 1) (seen round p o)
stays_next round p None known = refl
stays_next round p (Some reach) known =
    elim known [
      | inl none ↦ absurd cc
      | inr at ↦ elim (is_better (round + 1) p (Some reach)) as (λ t. IsAt (round + 1) (cond t (Some (record { links = round + 1; port = p })) (Some reach))) [ true ↦ refl | false ↦ at ]
    ]

up_to : (round p : ℕ) (o : Option Reach) → IsUpTo (round + 1) o → IsUpTo (round + 1) (seen round p o)
up_to round p o up = elim (is_better (round + 1) p o) as (λ t. IsUpTo (round + 1) (cond t (Some (record { links = round + 1; port = p })) o)) [ true ↦ omega arith | false ↦ up ]

-- what is there already is there, and so is a new one
in_new : (t : Bool) (next : List ℕ) (a x : ℕ) → Contains next x → Contains (cond t (next ++ a ∷ []) next) x
in_new true next a x at = Contains-append_left next (a ∷ []) x at
in_new false next a x at = at

new_in : (t : Bool) (next : List ℕ) (a : ℕ) → t ≡ true → Contains (cond t (next ++ a ∷ []) next) a
new_in true next a is = Contains-append_right next (a ∷ []) a (contains_here a [])
new_in false next a is = absurd cc

new_cases : (t : Bool) (next : List ℕ) (a x : ℕ) → Contains (cond t (next ++ a ∷ []) next) x → Contains next x ⊎ ((t ≡ true) × (x ≡ a))
new_cases true next a x at =
    elim (Contains-append_cases next (a ∷ []) x at) [
      | inl there ↦ inl there
      | inr new ↦ elim (contains_cases a [] x new) [ inl same ↦ inr (refl, sym same) | inr none ↦ absurd (contains_none x none) ]
    ]
new_cases false next a x at = inl at

at_next : (round : ℕ) (row : List (Option Reach)) (e : Exit) (x : ℕ) → e.0 < length row → IsAt (round + 1) (get_or row x None) → IsAt (round + 1) (get_or (visited round row e) x None)
at_next round row e x from at =
    each_visited (λ y o. IsAt (round + 1) o) round row e x from
    (λ same. stays_next round e.1 (get_or row e.0 None) (inr (subst (λ (y : ℕ). IsAt (round + 1) (get_or row y None)) same at))) (λ apart. at)

front_visited : (round : ℕ) (row : List (Option Reach)) (e : Exit) (next : List ℕ) → e.0 < length row → IsFront (round + 1) row next → IsFront (round + 1) (visited round row e) (with_new e row next)
front_visited round row e next from front =
    let long : length (visited round row e) ≡ length row = length_visited round row e in
    record {
      all = λ x within at.
          let inside : x < length row = subst (λ (k : ℕ). x < k) long within in
          each_visited (λ y o. y < length row → IsAt (round + 1) o → Contains (with_new e row next) y) round row e x from
          (λ same in' there. elim (comes_from round e.1 (get_or row e.0 None) there) [
            | inl none ↦ new_in (is_none (get_or row e.0 None)) next e.0 none
            | inr known ↦ in_new (is_none (get_or row e.0 None)) next e.0 e.0 (front.all e.0 in' known)
          ])
          (λ apart in' there. in_new (is_none (get_or row e.0 None)) next e.0 x (front.all x in' there)) inside at;
      only = λ x at. elim (new_cases (is_none (get_or row e.0 None)) next e.0 x at) [
        | inl there ↦ let known = front.only x there in (subst (λ (k : ℕ). x < k) (sym long) known.0, at_next round row e x from known.1)
        | inr new ↦ subst (λ (y : ℕ). (y < length (visited round row e)) × IsAt (round + 1) (get_or (visited round row e) y None)) (sym new.1) (
          subst (λ (k : ℕ). e.0 < k) (sym long) from,
          subst (IsAt (round + 1)) (sym (visited_here round row e from)) (stays_next round e.1 (get_or row e.0 None) (inl new.0)),
        )
      ];
      below = λ x within.
          let inside : x < length row = subst (λ (k : ℕ). x < k) long within in
          each_visited (λ y o. IsUpTo (round + 1) o) round row e x from (λ same. up_to round e.1 (get_or row e.0 None) (front.below e.0 from)) (λ apart. front.below x inside);
    }

-- ---- one round

new_first : (round : ℕ) (e : Exit) (left : List Exit) (row : List (Option Reach)) (next : List ℕ) → with_new e row next ++ newly_found round left (visited round row e) ≡ next ++ newly_found round (e ∷ left) row
new_first round e left row next =
    elim (is_none (get_or row e.0 None)) as (λ t. cond t (next ++ e.0 ∷ []) next ++ newly_found round left (visited round row e)
    ≡ next ++ cond t (e.0 ∷ newly_found round left (visited round row e)) (newly_found round left (visited round row e))) [
      | true ↦ append_assoc next (e.0 ∷ []) (newly_found round left (visited round row e))
      | false ↦ refl
    ]

front_along : (round : ℕ) (left : List Exit) (row : List (Option Reach)) (next : List ℕ) → AreFrom (length row) left → IsFront (round + 1) row next
    → IsFront (round + 1) (after_round round left row) (next ++ newly_found round left row)
front_along round [] row next from front = subst (IsFront (round + 1) row) (sym (append-nil next)) front
front_along round (e ∷ left) row next from front =
    let here = from e (contains_here e left) in
    let same = length_visited round row e in
    subst (IsFront (round + 1) (after_round round (e ∷ left) row)) (new_first round e left row next)
    (front_along round left (visited round row e) (with_new e row next) (λ x at. subst (λ (k : ℕ). x.0 < k) (sym same) (from x (contains_there e left x at))) (front_visited round row e next here front))

none_above : (round : ℕ) (o : Option Reach) → IsUpTo round o → IsAt (round + 1) o → ⊥
none_above round None up at = at
none_above round (Some reach) up at = omega arith

more_up : (round : ℕ) (o : Option Reach) → IsUpTo round o → IsUpTo (round + 1) o
more_up round None up = tt
more_up round (Some reach) up = omega arith

-- what a round finds are the switches that are one link further off
pub next_front : (round : ℕ) (left : List Exit) (row : List (Option Reach)) → ((e : Exit) → Contains left e → e.0 < length row) → IsBelow round row
    → IsFront (round + 1) (after_round round left row) (newly_found round left row)
next_front round left row from below = front_along round left row [] from (record {
  all = λ x within at. absurd (none_above round (get_or row x None) (below x within) at);
  only = λ x at. absurd (contains_none x at);
  below = λ x within. more_up round (get_or row x None) (below x within);
})

pub first_front : (size b : ℕ) → b < size → IsFront 0 (at_home size b) (b ∷ [])
first_front size b within = record {
  all = λ x in' at. elim (cases_eq x b) [
    | inl same ↦ (0, omega arith, sym same)
    | inr apart ↦ absurd (subst (IsAt 0) (first_other size b x (subst (λ (k : ℕ). x < k) (length_first size b) in') apart) at)
  ];
  only = λ x at. elim (contains_cases b [] x at) [
    | inl same ↦ subst (λ (y : ℕ). (y < length (at_home size b)) × IsAt 0 (get_or (at_home size b) y None)) same
        (subst (λ (k : ℕ). b < k) (sym (length_first size b)) within, subst (IsAt 0) (sym (first_here size b within)) refl)
    | inr none ↦ absurd (contains_none x none)
  ];
  below = λ x in'. elim (cases_eq x b) [
    | inl same ↦ subst (λ (y : ℕ). IsUpTo 0 (get_or (at_home size b) y None)) (sym same) (subst (IsUpTo 0) (sym (first_here size b within)) (omega arith))
    | inr apart ↦ subst (IsUpTo 0) (sym (first_other size b x (subst (λ (k : ℕ). x < k) (length_first size b) in') apart)) tt
  ];
}

-- ---- lists of ways out, one after the other

pub newly_append : (round : ℕ) (one more : List Exit) (row : List (Option Reach)) → newly_found round (one ++ more) row ≡ newly_found round one row ++ newly_found round more (after_round round one row)
newly_append round [] more row = refl
newly_append round (e ∷ one) more row =
    let rest = newly_append round one more (visited round row e) in
    elim (is_none (get_or row e.0 None)) as (λ t. cond t (e.0 ∷ newly_found round (one ++ more) (visited round row e)) (newly_found round (one ++ more) (visited round row e))
    ≡ cond t (e.0 ∷ newly_found round one (visited round row e)) (newly_found round one (visited round row e)) ++ newly_found round more (after_round round one (visited round row e))) [
      | true ↦ ap (λ (xs : List ℕ). e.0 ∷ xs) rest
      | false ↦ rest
    ]

-- the queue so far, what some ways out add to it, and what the others do
pub found_append : (round : ℕ) (one more : List Exit) (row new : List (Option Reach)) (old now : List ℕ) → new ≡ after_round round one row → now ≡ old ++ newly_found round one row
    → now ++ newly_found round more new ≡ old ++ newly_found round (one ++ more) row
found_append round one more row new old now row_is is =
    ap (λ (xs : List ℕ). xs ++ newly_found round more new) is
    ∙ ap (λ (r : List (Option Reach)). (old ++ newly_found round one row) ++ newly_found round more r) row_is
    ∙ append_assoc old (newly_found round one row) (newly_found round more (after_round round one row))
    ∙ ap (λ (xs : List ℕ). old ++ xs) (sym (newly_append round one more row))

-- ---- room

none_true : (o : Option Reach) (t : Bool) → is_some o ≡ not t → t ≡ true → is_none o ≡ true
none_true None t is test = refl
none_true (Some reach) t is test = absurd cc

pub unknown_set : (row : List (Option Reach)) (a : ℕ) (reach : Reach) → a < length row → is_none (get_or row a None) ≡ true → unknown (set row a (Some reach)) + 1 ≡ unknown row
unknown_set [] a reach within none = absurd (omega arith)
unknown_set (None ∷ row) zero reach within none = omega arith
unknown_set (Some o ∷ row) zero reach within none = absurd cc
unknown_set (None ∷ row) (suc a) reach within none = let rest = unknown_set row a reach (omega arith) none in omega arith
unknown_set (Some o ∷ row) (suc a) reach within none = unknown_set row a reach (omega arith) none

pub unknown_kept : (row : List (Option Reach)) (a : ℕ) (reach : Reach) → unknown (set row a (Some reach)) ≤ unknown row
unknown_kept [] a reach = omega arith
unknown_kept (None ∷ row) zero reach = omega arith
unknown_kept (Some o ∷ row) zero reach = omega arith
unknown_kept (None ∷ row) (suc a) reach = let rest = unknown_kept row a reach in omega arith
unknown_kept (Some o ∷ row) (suc a) reach = unknown_kept row a reach

unknown_all : (size : ℕ) → unknown (replicate size None) ≡ size
unknown_all zero = refl
unknown_all (suc size) = ap suc (unknown_all size)

pub unknown_first : (size b : ℕ) → b < size → unknown (at_home size b) + 1 ≡ size
unknown_first zero b within = absurd (omega arith)
unknown_first (suc size) zero within = let rest = unknown_all size in omega arith
unknown_first (suc size) (suc b) within = let rest = unknown_first size b (omega arith) in omega arith

-- where no path is known to a switch, there is room for it
pub room_for : (row : List (Option Reach)) (a : ℕ) (t : Bool) (len : ℕ) → a < length row → is_some (get_or row a None) ≡ not t → t ≡ true → len + unknown row ≤ length row → len < length row
room_for row a t len within is test room =
    let one = unknown_set row a (record { links = 0; port = 0 }) within (none_true (get_or row a None) t is test) in
    omega arith

-- it takes up that room, and nothing else does
pub room_pushed : (row new : List (Option Reach)) (a : ℕ) (reach : Reach) (t : Bool) (old now : Queue) → a < length row → is_some (get_or row a None) ≡ not t → t ≡ true → HasRoom row old
    → new ≡ set row a (Some reach) → now.len ≡ old.len + 1 → length now.places ≡ length old.places → HasRoom new now
room_pushed row new a reach t old now within is test room new_is len places =
    let one = unknown_set row a reach within (none_true (get_or row a None) t is test) in
    let count : unknown new ≡ unknown (set row a (Some reach)) = ap unknown new_is in
    let long : length new ≡ length row = ap length new_is ∙ length-set row a (Some reach) in
    let free = room.0 in
    let enough = room.1 in
    (omega arith, omega arith)

pub room_kept : (row new : List (Option Reach)) (a : ℕ) (reach : Reach) (queue : Queue) → HasRoom row queue → new ≡ set row a (Some reach) → HasRoom new queue
room_kept row new a reach queue room new_is =
    let kept = unknown_kept row a reach in
    let count : unknown new ≡ unknown (set row a (Some reach)) = ap unknown new_is in
    let long : length new ≡ length row = ap length new_is ∙ length-set row a (Some reach) in
    let free = room.0 in
    let enough = room.1 in
    (omega arith, omega arith)
