-- Paths between numbered switches are paths between the switches.
use Rattle.std.proofs.Common.{◌≡◌, ◌≢◌, ◌∙◌, ℕ, ◌+◌, ◌-◌, ◌<◌, ◌≤◌, ◌||◌, Bool, true, false, cond, List, [], ◌∷◌, Option, Some, None, Contains, get_or, length, map, option_map, ap, arith, inl, inr, refl, sym, subst, zero, suc}
use Rattle.std.proofs.lemmas.Bool.{cases_eq, cases_order}
use Rattle.std.proofs.lemmas.List.{get_or_default}
use Rattle.std.specs.List.{cons_option}
use Rattle.route_app.specs.Paths.{Begins, Exit, IsHop, IsNextHop, Path, exits_of, next_hop, up_of}
use Rattle.route_app.specs.Routing.{Router, usable}
use Rattle.route_app.specs.Table.{Ascends, IsReach, IsRouted, IsWay, named, ways}
use Rattle.route_app.specs.declared.reach.Reach.{Reach}
use Rattle.route_app.specs.declared.reach.Rows.{Rows}
use Rattle.route_app.proofs.Levels.{AreInside}
use Rattle.route_app.proofs.Members.{contains_mapped, contains_none, contains_there, contains_cases, contains_here}
use Rattle.route_app.proofs.Shortest.{is_next_hop, one_next_hop}
use Rattle.route_app.proofs.WaysIn.{ways_inside}

abbrev Link : Type 0
Link = ℕ × ℕ × ℕ × ℕ

-- a way out between switches that are given by their places
abbrev named_exit : List ℕ → Exit → Exit
named_exit switches e = (get_or switches e.0 0, e.1, get_or switches e.2 0)

up_named : (switches : List ℕ) (wires : List Link) (down : List (Bool × Bool)) → up_of (map (named switches) wires) down ≡ map (named switches) (up_of wires down)
up_named switches [] down = refl
up_named switches (wire ∷ wires) [] = refl
up_named switches (wire ∷ wires) (flag ∷ down) =
    elim (flag.0 || flag.1) as (λ t. cons_option (cond t None (Some (named switches wire))) (up_of (map (named switches) wires) down) ≡ map (named switches) (cons_option (cond t None (Some wire)) (up_of wires down))) [
      | true ↦ up_named switches wires down
      | false ↦ ap (λ (rest : List Link). named switches wire ∷ rest) (up_named switches wires down)
    ]

exits_named : (switches : List ℕ) (wires : List Link) → exits_of (map (named switches) wires) ≡ map (named_exit switches) (exits_of wires)
exits_named switches [] = refl
exits_named switches (wire ∷ wires) =
    ap (λ (rest : List Exit). named_exit switches (wire.0, wire.1, wire.2) ∷ named_exit switches (wire.2, wire.3, wire.0) ∷ rest) (exits_named switches wires)

ways_named : (switches : List ℕ) (wires : List Link) (down : List (Bool × Bool)) → ways (map (named switches) wires) down ≡ map (named_exit switches) (ways wires down)
ways_named switches wires down = ap exits_of (up_named switches wires down) ∙ exits_named switches (up_of wires down)

-- ---- numbers

same_number : (switches : List ℕ) (i j : ℕ) → Ascends switches → i < length switches → j < length switches → get_or switches i 0 ≡ get_or switches j 0 → i ≡ j
same_number switches i j ascends one two same =
    elim (cases_order i j) [
      | inl equal ↦ equal
      | inr (inl less) ↦ let rises = ascends i j less two in absurd (omega arith)
      | inr (inr more) ↦ let rises = ascends j i more one in absurd (omega arith)
    ]

numbered_there : (switches : List ℕ) (i : ℕ) → i < length switches → Contains switches (get_or switches i 0)
numbered_there switches i within = (i, within, get_or_default switches i (get_or switches i 0) 0 within)

mapped_from : {X Y : Type 0} (f : X → Y) (xs : List X) (y : Y) → Contains (map f xs) y → (x : X) × Contains xs x × (f x ≡ y)
mapped_from f [] y at = absurd (contains_none y at)
mapped_from f (x ∷ xs) y at =
    elim (contains_cases (f x) (map f xs) y at) [
      | inl same ↦ (x, contains_here x xs, same)
      | inr later ↦ let rest = mapped_from f xs y later in (rest.0, contains_there x xs rest.0 rest.1, rest.2)
    ]

-- ---- paths

path_named : (switches : List ℕ) (exits : List Exit) (n i j : ℕ) → Path exits n i j → Path (map (named_exit switches) exits) n (get_or switches i 0) (get_or switches j 0)
path_named switches exits zero i j path = ap (λ (k : ℕ). get_or switches k 0) path
path_named switches exits (suc n) i j (p, k, at, rest) =
    (p, get_or switches k 0, contains_mapped (named_exit switches) exits (i, p, k) at, path_named switches exits n k j rest)

-- the way out that a way between switches stands for
record Unnamed (switches : List ℕ) (exits : List Exit) (i p c : ℕ) : Type 0 where
  k : ℕ
  at : Contains exits (i, p, k)
  within : k < length switches
  is : get_or switches k 0 ≡ c

exit_unnamed : (switches : List ℕ) (exits : List Exit) (i p c : ℕ) → Ascends switches → AreInside (length switches) exits → i < length switches
    → Contains (map (named_exit switches) exits) (get_or switches i 0, p, c) → Unnamed switches exits i p c
exit_unnamed switches exits i p c ascends inside within at =
    let found = mapped_from (named_exit switches) exits (get_or switches i 0, p, c) at in
    let e = found.0 in
    let ends = inside e found.1 in
    let from : e.0 ≡ i = same_number switches e.0 i ascends ends.0 within (ap (λ (x : Exit). x.0) found.2) in
    let port : e.1 ≡ p = ap (λ (x : Exit). x.1) found.2 in
    record {
      k = e.2;
      at = subst (λ (s : ℕ). Contains exits (s, p, e.2)) from (subst (λ (q : ℕ). Contains exits (e.0, q, e.2)) port found.1);
      within = ends.1;
      is = ap (λ (x : Exit). x.2) found.2;
    }

path_unnamed : (switches : List ℕ) (exits : List Exit) (n i j : ℕ) → Ascends switches → AreInside (length switches) exits → i < length switches → j < length switches
    → Path (map (named_exit switches) exits) n (get_or switches i 0) (get_or switches j 0) → Path exits n i j
path_unnamed switches exits zero i j ascends inside one two path = same_number switches i j ascends one two path
path_unnamed switches exits (suc n) i j ascends inside one two (p, c, at, rest) =
    let first : Unnamed switches exits i p c = exit_unnamed switches exits i p c ascends inside one at in
    (p, first.k, first.at, path_unnamed switches exits n first.k j ascends inside first.within two (subst (λ (s : ℕ). Path (map (named_exit switches) exits) n s (get_or switches j 0)) (sym first.is) rest))

begins_named : (switches : List ℕ) (exits : List Exit) (n i j p : ℕ) → Begins exits n i j p → Begins (map (named_exit switches) exits) n (get_or switches i 0) (get_or switches j 0) p
begins_named switches exits n i j p (k, at, rest) = (get_or switches k 0, contains_mapped (named_exit switches) exits (i, p, k) at, path_named switches exits n k j rest)

begins_unnamed : (switches : List ℕ) (exits : List Exit) (n i j p : ℕ) → Ascends switches → AreInside (length switches) exits → i < length switches → j < length switches
    → Begins (map (named_exit switches) exits) n (get_or switches i 0) (get_or switches j 0) p → Begins exits n i j p
begins_unnamed switches exits n i j p ascends inside one two (c, at, rest) =
    let first : Unnamed switches exits i p c = exit_unnamed switches exits i p c ascends inside one at in
    (first.k, first.at, path_unnamed switches exits n first.k j ascends inside first.within two (subst (λ (s : ℕ). Path (map (named_exit switches) exits) n s (get_or switches j 0)) (sym first.is) rest))

-- a path begins and ends at switches that have numbers, unless it has no link
begins_there : (switches : List ℕ) (exits : List Exit) (n a b : ℕ) → AreInside (length switches) exits → a ≢ b → Path (map (named_exit switches) exits) n a b → Contains switches a
begins_there switches exits zero a b inside apart path = absurd (apart path)
begins_there switches exits (suc n) a b inside apart (p, c, at, rest) =
    let found = mapped_from (named_exit switches) exits (a, p, c) at in
    subst (Contains switches) (ap (λ (x : Exit). x.0) found.2) (numbered_there switches found.0.0 (inside found.0 found.1).0)

ends_there : (switches : List ℕ) (exits : List Exit) (n a b : ℕ) → AreInside (length switches) exits → a ≢ b → Path (map (named_exit switches) exits) n a b → Contains switches b
ends_there switches exits zero a b inside apart path = absurd (apart path)
ends_there switches exits (suc n) a b inside apart (p, c, at, rest) =
    elim (cases_eq c b) [
      | inl same ↦
          let found = mapped_from (named_exit switches) exits (a, p, c) at in
          subst (Contains switches) (ap (λ (x : Exit). x.2) found.2 ∙ same) (numbered_there switches found.0.2 (inside found.0 found.1).1)
      | inr other ↦ ends_there switches exits n c b inside other rest
    ]

-- ---- the next hop

-- the port of what a table has
abbrev pub port_of : Option Reach → Option ℕ
port_of o = option_map (λ (reach : Reach). reach.port) o

hop_from : (switches : List ℕ) (exits : List Exit) (i j n : ℕ) (reach : Reach) → Ascends switches → AreInside (length switches) exits → i < length switches → j < length switches
    → get_or switches i 0 ≢ get_or switches j 0 → reach.links ≡ n + 1 → IsWay exits j i reach → IsHop (map (named_exit switches) exits) (get_or switches i 0) (get_or switches j 0) reach.port
hop_from switches exits i j n reach ascends inside one two apart is way = record {
  apart = apart;
  more = n;
  begins = begins_named switches exits n i j reach.port (way.begins n is);
  fewest = λ m path. let few = way.fewest m (path_unnamed switches exits m i j ascends inside one two path) in omega arith;
  least = λ q begins. way.least n q is (begins_unnamed switches exits n i j q ascends inside one two begins);
}

some_links : (exits : List Exit) (i j n : ℕ) → i ≢ j → Path exits n i j → 1 ≤ n
some_links exits i j zero apart path = absurd (apart path)
some_links exits i j (suc n) apart path = omega arith

reach_hop : (switches : List ℕ) (exits : List Exit) (i j : ℕ) (o : Option Reach) → Ascends switches → AreInside (length switches) exits → i < length switches → j < length switches
    → get_or switches i 0 ≢ get_or switches j 0 → IsReach exits j i o → IsNextHop (map (named_exit switches) exits) (get_or switches i 0) (get_or switches j 0) (port_of o)
reach_hop switches exits i j None ascends inside one two apart is = inr (λ n path. is n (path_unnamed switches exits n i j ascends inside one two path))
reach_hop switches exits i j (Some reach) ascends inside one two apart is =
    let some = some_links exits i j reach.links (λ same. apart (ap (λ (k : ℕ). get_or switches k 0) same)) is.path in
    hop_from switches exits i j (reach.links - 1) reach ascends inside one two apart (omega arith) is

-- what is known of the ways out
routed_ways : (links wires : List Link) (switches : List ℕ) (down : List (Bool × Bool)) (table : Rows) → IsRouted links wires switches down table
    → (map (named_exit switches) (ways wires down) ≡ ways links down) × AreInside (length switches) (ways wires down)
routed_ways links wires switches down table is =
    (sym (ways_named switches wires down) ∙ ap (λ (all : List Link). ways all down) is.numbered.same, ways_inside (length switches) wires down is.numbered.within)

-- the table has the next hop between switches that have numbers
pub hop_found : (links wires : List Link) (switches : List ℕ) (down : List (Bool × Bool)) (table : Rows) (a b i j : ℕ) → IsRouted links wires switches down table → a ≢ b
    → (i < length switches) × (get_or switches i 0 ≡ a) → (j < length switches) × (get_or switches j 0 ≡ b) → IsNextHop (ways links down) a b (port_of (get_or (get_or table.rows j []) i None))
hop_found links wires switches down table a b i j is apart one two =
    let exits = routed_ways links wires switches down table is in
    let row : j < length table.rows = let long = is.ready.made.square.0 in let within = two.0 in omega arith in
    let width : length (get_or table.rows j []) ≡ length switches = is.ready.made.square.1 j [] row in
    let column : i < length (get_or table.rows j []) = let within = one.0 in omega arith in
    let reach : IsReach (ways wires down) j i (get_or (get_or table.rows j []) i None) = is.right j row i column in
    let not : get_or switches i 0 ≢ get_or switches j 0 = λ same. apart (sym one.1 ∙ same ∙ two.1) in
    subst (λ (x : ℕ). IsNextHop (ways links down) x b (port_of (get_or (get_or table.rows j []) i None))) one.1
    (subst (λ (y : ℕ). IsNextHop (ways links down) (get_or switches i 0) y (port_of (get_or (get_or table.rows j []) i None))) two.1
    (subst (λ (all : List Exit). IsNextHop all (get_or switches i 0) (get_or switches j 0) (port_of (get_or (get_or table.rows j []) i None))) exits.0
    (reach_hop switches (ways wires down) i j (get_or (get_or table.rows j []) i None) is.numbered.ascending exits.1 one.0 two.0 not reach)))

-- there is none where one of them has no number
pub none_from : (links wires : List Link) (switches : List ℕ) (down : List (Bool × Bool)) (table : Rows) (a b : ℕ) → IsRouted links wires switches down table → a ≢ b
    → (Contains switches a → ⊥) → IsNextHop (ways links down) a b None
none_from links wires switches down table a b is apart absent =
    let exits = routed_ways links wires switches down table is in
    subst (λ (all : List Exit). IsNextHop all a b None) exits.0 (inr (λ n path. absent (begins_there switches (ways wires down) n a b exits.1 apart path)))

pub none_to : (links wires : List Link) (switches : List ℕ) (down : List (Bool × Bool)) (table : Rows) (a b : ℕ) → IsRouted links wires switches down table → a ≢ b
    → (Contains switches b → ⊥) → IsNextHop (ways links down) a b None
none_to links wires switches down table a b is apart absent =
    let exits = routed_ways links wires switches down table is in
    subst (λ (all : List Exit). IsNextHop all a b None) exits.0 (inr (λ n path. absent (ends_there switches (ways wires down) n a b exits.1 apart path)))

-- what the relation allows is what the function gives
pub hop_is : (exits : List Exit) (a b : ℕ) (o : Option ℕ) → IsNextHop exits a b o → o ≡ next_hop exits a b
hop_is exits a b o is = one_next_hop exits a b o (next_hop exits a b) is (is_next_hop exits a b)

-- the same of a routing application
pub hop_kept : (a b : ℕ) (o : Option ℕ) (before now : Router) → before ≡ now → IsNextHop (exits_of (usable before)) a b o → IsNextHop (exits_of (usable now)) a b o
hop_kept a b o before now same is = subst (λ (router : Router). IsNextHop (exits_of (usable router)) a b o) same is
