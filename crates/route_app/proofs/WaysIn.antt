-- What stands at each switch, and the ways out that it stands for.
use Rattle.std.proofs.Common.{◌≡◌, ◌∙◌, ℕ, ◌+◌, ◌<◌, ◌||◌, ◌++◌, ◌⊎◌, Bool, true, false, cond, List, [], ◌∷◌, Some, None, All, Contains, flat_map, get_or, length, replicate, ap, arith, inl, inr, refl, sym, subst, zero, suc}
use Rattle.std.proofs.lemmas.Bool.{cases_eq, cases_lt}
use Rattle.std.proofs.lemmas.List.{get_or-set_other, get_or-set_same, get_or_default, get_or_past, length-set}
use Rattle.std.proofs.lemmas.List.Elements.{All-contains, Contains-append_cases, Contains-append_left, Contains-append_right}
use Rattle.std.specs.List.{cons_option}
use Rattle.route_app.specs.Paths.{Exit, exits_of, up_of}
use Rattle.route_app.specs.Table.{AreWithin, ways}
use Rattle.route_app.specs.Ways.{AreOpen, AreWays, AreWaysIn, is_down, leading_to, open_at, open_ways, with_both, with_way}
use Rattle.route_app.specs.declared.reach.WayIn.{WayIn}
use Rattle.route_app.proofs.Levels.{AreInside}
use Rattle.route_app.proofs.Members.{contains_cases, contains_here, contains_joined, contains_none, contains_picked, contains_there, picked_from}

abbrev pub Link : Type 0
Link = ℕ × ℕ × ℕ × ℕ

abbrev pub link_at : List Link → ℕ → Link
link_at links k = get_or links k (0, 0, 0, 0)

-- ---- what is put to a switch

way_before : (s t : ℕ) (way x : WayIn) (ways_in : List (List WayIn)) → s < length ways_in → Contains (get_or ways_in t []) x → Contains (get_or (with_way s way ways_in) t []) x
way_before s t way x ways_in within at =
    elim (cases_eq t s) [
      | inl same ↦ subst (λ (k : ℕ). Contains (get_or (with_way s way ways_in) k []) x) (sym same) (rw (get_or-set_same ways_in s (get_or ways_in s [] ++ way ∷ []) [] within)
          (Contains-append_left (get_or ways_in s []) (way ∷ []) x (subst (λ (k : ℕ). Contains (get_or ways_in k []) x) same at)))
      | inr apart ↦ rw (get_or-set_other ways_in s t (get_or ways_in s [] ++ way ∷ []) [] apart) at
    ]

way_new : (s : ℕ) (way : WayIn) (ways_in : List (List WayIn)) → s < length ways_in → Contains (get_or (with_way s way ways_in) s []) way
way_new s way ways_in within =
    rw (get_or-set_same ways_in s (get_or ways_in s [] ++ way ∷ []) [] within) (Contains-append_right (get_or ways_in s []) (way ∷ []) way (contains_here way []))

way_cases : (s t : ℕ) (way x : WayIn) (ways_in : List (List WayIn)) → s < length ways_in → Contains (get_or (with_way s way ways_in) t []) x → Contains (get_or ways_in t []) x ⊎ ((t ≡ s) × (way ≡ x))
way_cases s t way x ways_in within at =
    elim (cases_eq t s) [
      | inl same ↦
          let here : Contains (get_or ways_in s [] ++ way ∷ []) x = subst (λ (ws : List WayIn). Contains ws x) (get_or-set_same ways_in s (get_or ways_in s [] ++ way ∷ []) [] within) (subst (λ (k : ℕ). Contains (get_or (with_way s way ways_in) k []) x) same at) in
          elim (Contains-append_cases (get_or ways_in s []) (way ∷ []) x here) [
            | inl old ↦ inl (subst (λ (k : ℕ). Contains (get_or ways_in k []) x) (sym same) old)
            | inr new ↦ elim (contains_cases way [] x new) [ inl is ↦ inr (same, is) | inr none ↦ absurd (contains_none x none) ]
          ]
      | inr apart ↦ inl (subst (λ (ws : List WayIn). Contains ws x) (get_or-set_other ways_in s t (get_or ways_in s [] ++ way ∷ []) [] apart) at)
    ]

-- the two ways of a link
abbrev first_in : ℕ → Link → WayIn
first_in k link = record { from = link.0; port = link.1; link = k }

abbrev second_in : ℕ → Link → WayIn
second_in k link = record { from = link.2; port = link.3; link = k }

pub two_ways : (link : Link) (e : Exit) → Contains (exits_of (link ∷ [])) e → ((link.0, link.1, link.2) ≡ e) ⊎ ((link.2, link.3, link.0) ≡ e)
two_ways link e at =
    elim (contains_cases {X = Exit} (link.0, link.1, link.2) ((link.2, link.3, link.0) ∷ []) e at) [
      | inl first ↦ inl first
      | inr later ↦ elim (contains_cases {X = Exit} (link.2, link.3, link.0) [] e later) [ inl second ↦ inr second | inr none ↦ absurd (contains_none e none) ]
    ]

abbrev way_in : ℕ → ℕ → ℕ → WayIn
way_in from port link = record { from = from; port = port; link = link }

same_way : (k from port : ℕ) (way : WayIn) → way.link ≡ k → from ≡ way.from → port ≡ way.port → way_in from port k ≡ way
same_way k from port way one two three = ap (way_in from port) (sym one) ∙ ap (λ (f : ℕ). way_in f port way.link) two ∙ ap (λ (p : ℕ). way_in way.from p way.link) three

-- one more link
pub more_ways : (links : List Link) (k : ℕ) (old new : List (List WayIn)) → k < length links → (link_at links k).0 < length old → (link_at links k).2 < length old
    → new ≡ with_both k (link_at links k) old → AreWaysIn k links old → AreWaysIn (k + 1) links new
more_ways links k old new within one two is known s way inside =
    let link = link_at links k in
    let half = with_way link.2 (first_in k link) old in
    let long : length half ≡ length old = length-set old link.2 _ in
    let whole : length (with_both k link old) ≡ length old = length-set half link.0 _ ∙ long in
    let within' : s < length old = subst (λ (n : ℕ). s < n) whole (subst (λ (ls : List (List WayIn)). s < length ls) is inside) in
    let first : link.0 < length half = subst (λ (n : ℕ). link.0 < n) (sym long) one in (
      λ at. elim (way_cases link.0 s (second_in k link) way half first (subst (λ (ls : List (List WayIn)). Contains (get_or ls s []) way) is at)) [
        | inl before ↦ elim (way_cases link.2 s (first_in k link) way old two before) [
          | inl old_one ↦ let was = (known s way within').0 old_one in (let less = was.0 in omega arith, was.1)
          | inr new_one ↦ subst (λ (w : WayIn). (w.link < k + 1) × Contains (exits_of (link_at links w.link ∷ [])) (w.from, w.port, s)) new_one.1
              (omega arith, subst (λ (t : ℕ). Contains (exits_of (link ∷ [])) (link.0, link.1, t)) (sym new_one.0) (contains_here {X = Exit} (link.0, link.1, link.2) ((link.2, link.3, link.0) ∷ [])))
        ]
        | inr new_one ↦ subst (λ (w : WayIn). (w.link < k + 1) × Contains (exits_of (link_at links w.link ∷ [])) (w.from, w.port, s)) new_one.1 (
          omega arith,
          subst (λ (t : ℕ). Contains (exits_of (link ∷ [])) (link.2, link.3, t)) (sym new_one.0)
              (contains_there {X = Exit} (link.0, link.1, link.2) ((link.2, link.3, link.0) ∷ []) (link.2, link.3, link.0) (contains_here {X = Exit} (link.2, link.3, link.0) [])),
        )
      ],
      λ both. subst (λ (ls : List (List WayIn)). Contains (get_or ls s []) way) (sym is) (elim (cases_eq way.link k) [
        | inl same ↦
            let at : Contains (exits_of (link ∷ [])) (way.from, way.port, s) = subst (λ (n : ℕ). Contains (exits_of (link_at links n ∷ [])) (way.from, way.port, s)) same both.1 in
            elim (two_ways link (way.from, way.port, s) at) [
              | inl forth ↦
                  let put : Contains (get_or half s []) way = subst (λ (t : ℕ). Contains (get_or half t []) way) (ap (λ (e : Exit). e.2) forth)
                  (subst (λ (w : WayIn). Contains (get_or half link.2 []) w) (same_way k link.0 link.1 way same (ap (λ (e : Exit). e.0) forth) (ap (λ (e : Exit). e.1) forth)) (way_new link.2 (first_in k link) old two)) in
                  way_before link.0 s (second_in k link) way half first put
              | inr back ↦ subst (λ (t : ℕ). Contains (get_or (with_both k link old) t []) way) (ap (λ (e : Exit). e.2) back)
                  (subst (λ (w : WayIn). Contains (get_or (with_both k link old) link.0 []) w) (same_way k link.2 link.3 way same (ap (λ (e : Exit). e.0) back) (ap (λ (e : Exit). e.1) back)) (way_new link.0 (second_in k link) half first))
            ]
        | inr apart ↦
            let less : way.link < k = let low = both.0 in omega arith in
            way_before link.0 s (second_in k link) way half first (way_before link.2 s (first_in k link) way old two ((known s way within').1 (less, both.1)))
      ]),
    )

get_or_empty : (size s : ℕ) → get_or (replicate {A = List WayIn} size []) s [] ≡ []
get_or_empty zero s = refl
get_or_empty (suc size) zero = refl
get_or_empty (suc size) (suc s) = get_or_empty size s

pub no_ways : (size : ℕ) (links : List Link) → AreWaysIn 0 links (replicate size [])
no_ways size links s way within = (
  λ at. absurd (contains_none way (subst (λ (ws : List WayIn). Contains ws way) (get_or_empty size s) at)),
  λ both. let low = both.0 in absurd (omega arith),
)

-- ---- the ways out

-- a link that can be used stands at a place
pub up_at : (links : List Link) (down : List (Bool × Bool)) (link : Link) → Contains (up_of links down) link → (k : ℕ) × (k < length links) × (link_at links k ≡ link) × (is_down down k ≡ false)
up_at [] down link at = absurd (contains_none link at)
up_at (l ∷ links) [] link at = absurd (contains_none link at)
up_at (l ∷ links) (ends ∷ down) link at =
    (elim (ends.0 || ends.1) as (λ t. (ends.0 || ends.1) ≡ t → Contains (cons_option (cond t None (Some l)) (up_of links down)) link
    → (k : ℕ) × (k < length (l ∷ links)) × (link_at (l ∷ links) k ≡ link) × (is_down (ends ∷ down) k ≡ false)) [
      | true ↦ λ is now. let rest = up_at links down link now in (suc rest.0, let less = rest.1 in omega arith, rest.2, rest.3)
      | false ↦ λ is now. elim (contains_cases l (up_of links down) link now) [
        | inl same ↦ (0, omega arith, same, is)
        | inr later ↦ let rest = up_at links down link later in (suc rest.0, let less = rest.1 in omega arith, rest.2, rest.3)
      ]
    ]) refl at

pub up_has : (links : List Link) (down : List (Bool × Bool)) (k : ℕ) → length down ≡ length links → k < length links → is_down down k ≡ false → Contains (up_of links down) (link_at links k)
up_has [] down k long within up = absurd (omega arith)
up_has (l ∷ links) [] k long within up = absurd (omega arith)
up_has (l ∷ links) (ends ∷ down) zero long within up = subst (λ t. Contains (cons_option (cond t None (Some l)) (up_of links down)) l) (sym up) (contains_here l (up_of links down))
up_has (l ∷ links) (ends ∷ down) (suc k) long within up =
    let rest = up_has links down k (omega arith) (omega arith) up in
    elim (ends.0 || ends.1) as (λ t. Contains (cons_option (cond t None (Some l)) (up_of links down)) (link_at links k)) [ true ↦ rest | false ↦ contains_there l (up_of links down) (link_at links k) rest ]

pub joined_from : {X Y : Type 0} (f : X → List Y) (xs : List X) (x : X) (y : Y) → Contains xs x → Contains (f x) y → Contains (flat_map f xs) y
joined_from f [] x y at in' = absurd (contains_none x at)
joined_from {X} {Y} f (z ∷ zs) x y at in' =
    elim (contains_cases z zs x at) [
      | inl same ↦ Contains-append_left (f z) (flat_map f zs) y (subst (λ (w : X). Contains (f w) y) (sym same) in')
      | inr later ↦ Contains-append_right (f z) (flat_map f zs) y (joined_from f zs x y later in')
    ]

-- the link of a way out
pub record IsOf (links : List Link) (down : List (Bool × Bool)) (e : Exit) : Type 0 where
  pub k : ℕ
  pub within : k < length links
  pub up : is_down down k ≡ false
  pub at : Contains (exits_of (link_at links k ∷ [])) e

pub link_of : (links : List Link) (down : List (Bool × Bool)) (e : Exit) → Contains (ways links down) e → IsOf links down e
link_of links down e at =
    let found = contains_joined (λ (link : Link). (link.0, link.1, link.2) ∷ (link.2, link.3, link.0) ∷ []) (up_of links down) e at in
    let place = up_at links down found.0 found.1 in
    record { k = place.0; within = place.1; up = place.3; at = subst (λ (l : Link). Contains (exits_of (l ∷ [])) e) (sym place.2) found.2 }

pub way_of : (links : List Link) (down : List (Bool × Bool)) (e : Exit) (k : ℕ) → length down ≡ length links → k < length links → is_down down k ≡ false → Contains (exits_of (link_at links k ∷ [])) e → Contains (ways links down) e
way_of links down e k long within up at =
    joined_from (λ (link : Link). (link.0, link.1, link.2) ∷ (link.2, link.3, link.0) ∷ []) (up_of links down) (link_at links k) e (up_has links down k long within up) at

-- the ways out are between switches with numbers below, where the links are
pub ways_inside : (size : ℕ) (links : List Link) (down : List (Bool × Bool)) → AreWithin size links → AreInside size (ways links down)
ways_inside size links down within e at =
    let of : IsOf links down e = link_of links down e at in
    let ends = within of.k (0, 0, 0, 0) of.within in
    elim (two_ways (link_at links of.k) e of.at) [
      | inl same ↦ subst (λ (x : Exit). (x.0 < size) × (x.2 < size)) same (ends.0, ends.1)
      | inr same ↦ subst (λ (x : Exit). (x.0 < size) × (x.2 < size)) same (ends.1, ends.0)
    ]

-- a way out that a way in stands for
open_from : (down : List (Bool × Bool)) (s : ℕ) (ways : List WayIn) (e : Exit) → Contains (open_ways down s ways) e → (way : WayIn) × Contains ways way × ((way.from, way.port, s) ≡ e) × (is_down down way.link ≡ false)
open_from down s ways e at =
    let found = picked_from (λ (way : WayIn). cond (is_down down way.link) None (Some (way.from, way.port, s))) ways e at in
    let way = found.0 in
    (elim (is_down down way.link) as (λ t. is_down down way.link ≡ t → cond t None (Some (way.from, way.port, s)) ≡ Some e → (w : WayIn) × Contains ways w × ((w.from, w.port, s) ≡ e) × (is_down down w.link ≡ false)) [
      | true ↦ λ test is. absurd cc
      | false ↦ λ test is. let same : (way.from, way.port, s) ≡ e = cc in (way, found.1, same, test)
    ]) refl found.2

-- a switch to which a way in stands is one of those that have any
inside_ways : (ways_in : List (List WayIn)) (s : ℕ) (way : WayIn) → Contains (get_or ways_in s []) way → s < length ways_in
inside_ways ways_in s way at =
    elim (cases_lt s (length ways_in)) [ inl less ↦ less | inr more ↦ absurd (contains_none way (subst (λ (ws : List WayIn). Contains ws way) (get_or_past ways_in s [] more) at)) ]

-- what stands at each switch stands for the ways out of the links that can be used
pub ways_open : (links : List Link) (down : List (Bool × Bool)) (ways_in : List (List WayIn)) → AreWaysIn (length links) links ways_in → length down ≡ length links → AreWithin (length ways_in) links
    → AreOpen (ways links down) ways_in down
ways_open links down ways_in are long within e = (
  λ at.
      let of : IsOf links down e = link_of links down e at in
      contains_picked (λ (way : WayIn). cond (is_down down way.link) None (Some (way.from, way.port, e.2))) (get_or ways_in e.2 []) (record { from = e.0; port = e.1; link = of.k }) e
      ((are e.2 (record { from = e.0; port = e.1; link = of.k }) (ways_inside (length ways_in) links down within e at).1).1 (of.within, of.at)) (ap (λ t. cond t None (Some e)) of.up),
  λ at.
      let found = open_from down e.2 (get_or ways_in e.2 []) e at in
      let way = found.0 in
      let stands = (are e.2 way (inside_ways ways_in e.2 way found.1)).0 found.1 in
      way_of links down e way.link long stands.0 found.3 (subst (λ (x : Exit). Contains (exits_of (link_at links way.link ∷ [])) x) found.2 stands.1),
)

-- ways in lead along links, from switches that are at their ends
pub ways_within : (size : ℕ) (links : List Link) (ways_in : List (List WayIn)) → AreWaysIn (length links) links ways_in → AreWithin size links → All (AreWays size (length links)) ways_in
ways_within size links ways_in are within s d inside k e has =
    let way = get_or (get_or ways_in s d) k e in
    let same : get_or ways_in s d ≡ get_or ways_in s [] = get_or_default ways_in s d [] inside in
    let at : Contains (get_or ways_in s []) way = subst (λ (ws : List WayIn). Contains ws way) same (k, has, get_or_default (get_or ways_in s d) k way e has) in
    let stands = (are s way inside).0 at in
    let ends = within way.link (0, 0, 0, 0) stands.0 in (
      elim (two_ways (link_at links way.link) (way.from, way.port, s) stands.1) [
        | inl forth ↦ subst (λ (x : Exit). x.0 < size) forth ends.0
        | inr back ↦ subst (λ (x : Exit). x.0 < size) back ends.1
      ],
      stands.0,
    )

-- a way in leads from one of so many switches
from_inside : (size links : ℕ) (ways_in : List (List WayIn)) (s : ℕ) (way : WayIn) → All (AreWays size links) ways_in → Contains (get_or ways_in s []) way → way.from < size
from_inside size links ways_in s way all at =
    (All-contains (λ (w : WayIn). (w.from < size) × (w.link < links)) (get_or ways_in s []) way (all s [] (inside_ways ways_in s way at)) at).0

pub open_inside : (size links : ℕ) (exits : List Exit) (ways_in : List (List WayIn)) (down : List (Bool × Bool)) → length ways_in ≡ size → All (AreWays size links) ways_in → AreOpen exits ways_in down → AreInside size exits
open_inside size links exits ways_in down long all stand e at =
    let found = open_from down e.2 (get_or ways_in e.2 []) e ((stand e).0 at) in (
      subst (λ (x : Exit). x.0 < size) found.2 (from_inside size links ways_in e.2 found.0 all found.1),
      subst (λ (k : ℕ). e.2 < k) long (inside_ways ways_in e.2 found.0 found.1),
    )

-- ---- the ways out that lead to some switches

pub led_from : (size links : ℕ) (ways_in : List (List WayIn)) (down : List (Bool × Bool)) (front : List ℕ) → All (AreWays size links) ways_in → (e : Exit) → Contains (leading_to ways_in down front) e → e.0 < size
led_from size links ways_in down front all e at =
    let led = contains_joined (open_at ways_in down) front e at in
    let found = open_from down led.0 (get_or ways_in led.0 []) e led.2 in
    subst (λ (x : Exit). x.0 < size) found.2 (from_inside size links ways_in led.0 found.0 all found.1)

pub led_to : (ways_in : List (List WayIn)) (down : List (Bool × Bool)) (front : List ℕ) (e : Exit) → Contains (leading_to ways_in down front) e → Contains front e.2 × Contains (open_at ways_in down e.2) e
led_to ways_in down front e at =
    let led = contains_joined (open_at ways_in down) front e at in
    let found = open_from down led.0 (get_or ways_in led.0 []) e led.2 in
    let same : led.0 ≡ e.2 = ap (λ (x : Exit). x.2) found.2 in
    (subst (Contains front) same led.1, subst (λ (s : ℕ). Contains (open_at ways_in down s) e) same led.2)

pub led_all : (ways_in : List (List WayIn)) (down : List (Bool × Bool)) (front : List ℕ) (e : Exit) → Contains front e.2 → Contains (open_at ways_in down e.2) e → Contains (leading_to ways_in down front) e
led_all ways_in down front e at in' = joined_from (open_at ways_in down) front e.2 e at in'
