-- A search by levels finds shortest paths, and the least ports that begin them.
use Rattle.std.proofs.Common.{◌≡◌, ◌≢◌, ◌∙◌, ℕ, ◌+◌, ◌<◌, ◌≤◌, ◌==◌, ◌⊎◌, true, false, cond, List, [], ◌∷◌, Option, Some, None, Contains, IfSome, get_or, set, length, nat_lt, replicate, ap, arith, inl, inr, refl, sym, subst, zero, suc}
use Rattle.std.proofs.lemmas.Bool.{and_cases, and_parts, cases_Bool, cases_eq, cases_lt, eqb-false, eqb-true, ltb-false, ltb-true, true≢false}
use Rattle.std.proofs.lemmas.List.{get_or-replicate, get_or-set_other, get_or-set_same, length-replicate, length-set}
use Rattle.std.specs.List.{range_with_len}
use Rattle.route_app.specs.Paths.{Begins, Exit, Path}
use Rattle.route_app.specs.Rounds.{after_round, at_home, is_better, visited}
use Rattle.route_app.specs.Table.{IsReach, IsRow}
use Rattle.route_app.specs.declared.reach.Reach.{Reach}
use Rattle.route_app.proofs.Members.{contains_cases, contains_here, contains_none, contains_range, contains_there, length_range}
use Rattle.route_app.proofs.Shortest.{short_path}

-- In a round it is not yet known how to come from a switch: no path is of so many links as rounds were, and the ways out by which
-- one of one more link begins are still to be looked at.
pub record IsUnknown (exits : List Exit) (b round : ℕ) (left : List Exit) (a : ℕ) : Type 0 where
  pub far : (n : ℕ) → n ≤ round → Path exits n a b → ⊥
  pub later : (p c : ℕ) → Contains exits (a, p, c) → Path exits round c b → Contains left (a, p, c)

-- It is known: and the port is the least, but for the ways out that are still to be looked at.
pub record IsKnownWay (exits : List Exit) (b round : ℕ) (left : List Exit) (a : ℕ) (reach : Reach) : Type 0 where
  pub path : Path exits reach.links a b
  pub fewest : (n : ℕ) → Path exits n a b → reach.links ≤ n
  pub near : reach.links ≤ round + 1
  pub begins : (n : ℕ) → reach.links ≡ n + 1 → Begins exits n a b reach.port
  pub least : (n q c : ℕ) → reach.links ≡ n + 1 → Contains exits (a, q, c) → Path exits n c b → (reach.port ≤ q) ⊎ ((n ≡ round) × Contains left (a, q, c))

abbrev pub IsKnown : List Exit → ℕ → ℕ → List Exit → ℕ → Option Reach → Type 0
IsKnown exits b round left a None = IsUnknown exits b round left a
IsKnown exits b round left a (Some reach) = IsKnownWay exits b round left a reach

abbrev pub IsKnownRow : List Exit → ℕ → ℕ → List Exit → List (Option Reach) → Type 0
IsKnownRow exits b round left row = (a : ℕ) → a < length row → IsKnown exits b round left a (get_or row a None)

-- a path of so many links is known
abbrev pub IsAt : ℕ → Option Reach → Type 0
IsAt level None = ⊥
IsAt level (Some reach) = reach.links ≡ level

-- no longer one is
abbrev pub IsUpTo : ℕ → Option Reach → Type 0
IsUpTo level o = IfSome o (λ (reach : Reach). reach.links ≤ level)

-- no known path is longer
abbrev pub IsBelow : ℕ → List (Option Reach) → Type 0
IsBelow top row = (a : ℕ) → a < length row → IsUpTo top (get_or row a None)

-- the ways out lead from and to switches with numbers below
abbrev pub AreInside : ℕ → List Exit → Type 0
AreInside size exits = (e : Exit) → Contains exits e → (e.0 < size) × (e.2 < size)

-- some ways out of all lead to switches that are so far off
pub record LeadThere (exits : List Exit) (round : ℕ) (left : List Exit) (row : List (Option Reach)) : Type 0 where
  pub within : (e : Exit) → Contains left e → Contains exits e
  pub there : (e : Exit) → Contains left e → IsAt round (get_or row e.2 None)

-- ---- one way out

-- what is known of a switch after a way out of it is looked at
abbrev pub seen : ℕ → ℕ → Option Reach → Option Reach
seen round p o = cond (is_better (round + 1) p o) (Some (record { links = round + 1; port = p })) o

pub length_visited : (round : ℕ) (row : List (Option Reach)) (e : Exit) → length (visited round row e) ≡ length row
length_visited round row e = elim (is_better (round + 1) e.1 (get_or row e.0 None)) as (λ t. length (cond t (set row e.0 (Some (record { links = round + 1; port = e.1 }))) row) ≡ length row) [ true ↦ length-set row e.0 _ | false ↦ refl ]

pub visited_here : (round : ℕ) (row : List (Option Reach)) (e : Exit) → e.0 < length row → get_or (visited round row e) e.0 None ≡ seen round e.1 (get_or row e.0 None)
visited_here round row e from =
    let new : Option Reach = Some (record { links = round + 1; port = e.1 }) in
    elim (is_better (round + 1) e.1 (get_or row e.0 None)) as (λ t. get_or (cond t (set row e.0 new) row) e.0 None ≡ cond t new (get_or row e.0 None)) [ true ↦ get_or-set_same row e.0 new None from | false ↦ refl ]

pub visited_other : (round : ℕ) (row : List (Option Reach)) (e : Exit) (x : ℕ) → x ≢ e.0 → get_or (visited round row e) x None ≡ get_or row x None
visited_other round row e x apart =
    let new : Option Reach = Some (record { links = round + 1; port = e.1 }) in
    elim (is_better (round + 1) e.1 (get_or row e.0 None)) as (λ t. get_or (cond t (set row e.0 new) row) x None ≡ get_or row x None) [ true ↦ get_or-set_other row e.0 x new None apart | false ↦ refl ]

-- what holds of a switch after a look, where it is kept by one
pub each_visited : (P : ℕ → Option Reach → Type 0) (round : ℕ) (row : List (Option Reach)) (e : Exit) (x : ℕ) → e.0 < length row
    → (x ≡ e.0 → P e.0 (seen round e.1 (get_or row e.0 None))) → (x ≢ e.0 → P x (get_or row x None)) → P x (get_or (visited round row e) x None)
each_visited P round row e x from here other =
    elim (cases_eq x e.0) [
      | inl same ↦ subst (λ (y : ℕ). P y (get_or (visited round row e) y None)) (sym same) (subst (P e.0) (sym (visited_here round row e from)) (here same))
      | inr apart ↦ subst (P x) (sym (visited_other round row e x apart)) (other apart)
    ]

-- a way out that comes first in a list, or not
first_or_later : (a p c q d : ℕ) (left : List Exit) → Contains ((a, p, c) ∷ left) (a, q, d) → ((p ≡ q) × (c ≡ d)) ⊎ Contains left (a, q, d)
first_or_later a p c q d left at =
    elim (contains_cases {X = Exit} (a, p, c) left (a, q, d) at) [
      | inl same ↦ inl (ap (λ (e : Exit). e.1) same, ap (λ (e : Exit). e.2) same)
      | inr later ↦ inr later
    ]

elsewhere : (a x p c q d : ℕ) (left : List Exit) → x ≢ a → Contains ((a, p, c) ∷ left) (x, q, d) → Contains left (x, q, d)
elsewhere a x p c q d left apart at =
    elim (contains_cases {X = Exit} (a, p, c) left (x, q, d) at) [ inl same ↦ absurd (apart (sym (ap (λ (e : Exit). e.0) same))) | inr later ↦ later ]

-- at another switch
other_known : (exits : List Exit) (b round a p c : ℕ) (left : List Exit) (x : ℕ) (o : Option Reach) → x ≢ a → IsKnown exits b round ((a, p, c) ∷ left) x o → IsKnown exits b round left x o
other_known exits b round a p c left x None apart known = record { far = known.far; later = λ q d at path. elsewhere a x p c q d left apart (known.later q d at path) }
other_known exits b round a p c left x (Some reach) apart known = record {
  path = known.path;
  fewest = known.fewest;
  near = known.near;
  begins = known.begins;
  least = λ n q d is at path. elim (known.least n q d is at path) [ inl less ↦ inl less | inr later ↦ inr (later.0, elsewhere a x p c q d left apart later.1) ];
}

-- from a switch of the last round there is a path
leads : (exits : List Exit) (b round : ℕ) (left : List Exit) (c : ℕ) (o : Option Reach) → IsKnown exits b round left c o → IsAt round o → Path exits round c b
leads exits b round left c None known at = absurd at
leads exits b round left c (Some reach) known at = subst (λ (n : ℕ). Path exits n c b) at known.path

-- a way out that is no better
skip_known : (exits : List Exit) (b round a p c : ℕ) (left : List Exit) (o : Option Reach) → is_better (round + 1) p o ≡ false → IsKnown exits b round ((a, p, c) ∷ left) a o → IsKnown exits b round left a o
skip_known exits b round a p c left None test known = absurd (true≢false test)
skip_known exits b round a p c left (Some reach) test known = record {
  path = known.path;
  fewest = known.fewest;
  near = known.near;
  begins = known.begins;
  least = λ n q d is at path. elim (known.least n q d is at path) [
    | inl less ↦ inl less
    | inr more ↦ elim (first_or_later a p c q d left more.1) [
      | inl same ↦ elim (and_cases (reach.links == round + 1) (nat_lt p reach.port) test) [
        | inl longer ↦ let last = more.0 in absurd (eqb-false reach.links (round + 1) longer (omega arith))
        | inr above ↦ let low = ltb-false p reach.port above in let ports = same.0 in inl (omega arith)
      ]
      | inr later ↦ inr (more.0, later)
    ]
  ];
}

-- no path is shorter than one that is better
no_shorter : (exits : List Exit) (b round a p : ℕ) (left : List Exit) (o : Option Reach) → IsKnown exits b round left a o → is_better (round + 1) p o ≡ true → (n : ℕ) → Path exits n a b → round + 1 ≤ n
no_shorter exits b round a p left None known test n path = elim (cases_lt round n) [ inl more ↦ omega arith | inr less ↦ absurd (known.far n less path) ]
no_shorter exits b round a p left (Some reach) known test n path =
    let same = eqb-true reach.links (round + 1) (and_parts (reach.links == round + 1) (nat_lt p reach.port) test).0 in
    let few = known.fewest n path in
    omega arith

-- the ways out by lesser ports than one that is better are still to be looked at
no_lesser : (exits : List Exit) (b round a p c : ℕ) (left : List Exit) (o : Option Reach) → IsKnown exits b round ((a, p, c) ∷ left) a o → is_better (round + 1) p o ≡ true
    → (q d : ℕ) → Contains exits (a, q, d) → Path exits round d b → (p ≤ q) ⊎ Contains left (a, q, d)
no_lesser exits b round a p c left None known test q d at path =
    elim (first_or_later a p c q d left (known.later q d at path)) [ inl same ↦ let equal = same.0 in inl (omega arith) | inr later ↦ inr later ]
no_lesser exits b round a p c left (Some reach) known test q d at path =
    let both = and_parts (reach.links == round + 1) (nat_lt p reach.port) test in
    let same : reach.links ≡ round + 1 = eqb-true reach.links (round + 1) both.0 in
    let less : p < reach.port = ltb-true p reach.port both.1 in
    elim (known.least round q d same at path) [
      | inl above ↦ inl (omega arith)
      | inr more ↦ elim (first_or_later a p c q d left more.1) [ inl equal ↦ let ports = equal.0 in inl (omega arith) | inr later ↦ inr later ]
    ]

-- a way out that is better
take_known : (exits : List Exit) (b round a p c : ℕ) (left : List Exit) (o : Option Reach) → Contains exits (a, p, c) → Path exits round c b → is_better (round + 1) p o ≡ true
    → IsKnown exits b round ((a, p, c) ∷ left) a o → IsKnownWay exits b round left a (record { links = round + 1; port = p })
take_known exits b round a p c left o in' on better known =
    let same : suc round ≡ round + 1 = omega arith in
    record {
      path = subst (λ (n : ℕ). Path exits n a b) same (p, c, in', on);
      fewest = no_shorter exits b round a p ((a, p, c) ∷ left) o known better;
      near = omega arith;
      begins = λ n is. let equal : round ≡ n = omega arith in (c, in', subst (λ (k : ℕ). Path exits k c b) equal on);
      least = λ n q d is at path. let equal : n ≡ round = omega arith in
          elim (no_lesser exits b round a p c left o known better q d at (subst (λ (k : ℕ). Path exits k d b) equal path)) [ inl less ↦ inl less | inr later ↦ inr (equal, later) ];
    }

here_known : (exits : List Exit) (b round a p c : ℕ) (left : List Exit) (o : Option Reach) → Contains exits (a, p, c) → Path exits round c b → IsKnown exits b round ((a, p, c) ∷ left) a o
    → IsKnown exits b round left a (seen round p o)
here_known exits b round a p c left o in' on known =
    elim (cases_Bool (is_better (round + 1) p o)) [
      | inl test ↦ rw test (take_known exits b round a p c left o in' on test known)
      | inr test ↦ rw test (skip_known exits b round a p c left o test known)
    ]

visit_known : (exits : List Exit) (b round : ℕ) (e : Exit) (left : List Exit) (row : List (Option Reach)) → Contains exits e → e.0 < length row → e.2 < length row → IsAt round (get_or row e.2 None)
    → IsKnownRow exits b round (e ∷ left) row → IsKnownRow exits b round left (visited round row e)
visit_known exits b round e left row in' from next there known x within =
    let inside : x < length row = subst (λ (k : ℕ). x < k) (length_visited round row e) within in
    let on = leads exits b round (e ∷ left) e.2 (get_or row e.2 None) (known e.2 next) there in
    each_visited (IsKnown exits b round left) round row e x from
    (λ same. here_known exits b round e.0 e.1 e.2 left (get_or row e.0 None) in' on (known e.0 from))
    (λ apart. other_known exits b round e.0 e.1 e.2 left x (get_or row x None) apart (known x inside))

-- ---- one round

pub length_round : (round : ℕ) (left : List Exit) (row : List (Option Reach)) → length (after_round round left row) ≡ length row
length_round round [] row = refl
length_round round (e ∷ left) row = length_round round left (visited round row e) ∙ length_visited round row e

-- a switch of the last round is not changed
stays_seen : (round p : ℕ) (o : Option Reach) → IsAt round o → IsAt round (seen round p o)
stays_seen round p None at = absurd at
stays_seen round p (Some reach) at =
    elim (cases_Bool (is_better (round + 1) p (Some reach))) [
      | inl test ↦ absurd (let longer = eqb-true reach.links (round + 1) (and_parts (reach.links == round + 1) (nat_lt p reach.port) test).0 in omega arith)
      | inr test ↦ rw test at
    ]

pub stays_at : (round : ℕ) (row : List (Option Reach)) (e : Exit) (x : ℕ) → e.0 < length row → IsAt round (get_or row x None) → IsAt round (get_or (visited round row e) x None)
stays_at round row e x from at =
    each_visited (λ y o. IsAt round o) round row e x from (λ same. stays_seen round e.1 (get_or row e.0 None) (subst (λ (y : ℕ). IsAt round (get_or row y None)) same at)) (λ apart. at)

run_known : (exits : List Exit) (b round : ℕ) (left : List Exit) (row : List (Option Reach)) → AreInside (length row) exits → LeadThere exits round left row
    → IsKnownRow exits b round left row → IsKnownRow exits b round [] (after_round round left row)
run_known exits b round [] row inside lead known = known
run_known exits b round (e ∷ left) row inside lead known =
    let here = lead.within e (contains_here e left) in
    let ends = inside e here in
    let same = length_visited round row e in
    run_known exits b round left (visited round row e) (subst (λ (k : ℕ). AreInside k exits) (sym same) inside) (record {
      within = λ x at. lead.within x (contains_there e left x at);
      there = λ x at. stays_at round row e x.2 ends.0 (lead.there x (contains_there e left x at));
    })
    (visit_known exits b round e left row here ends.0 ends.1 (lead.there e (contains_here e left)) known)

far_on : (exits : List Exit) (b round a : ℕ) → IsUnknown exits b round [] a → (n : ℕ) → n ≤ round + 1 → Path exits n a b → ⊥
far_on exits b round a known zero few path = known.far zero (omega arith) path
far_on exits b round a known (suc n) few (p, c, at, rest) =
    elim (cases_eq n round) [
      | inl same ↦ contains_none (a, p, c) (known.later p c at (subst (λ (k : ℕ). Path exits k c b) same rest))
      | inr apart ↦ known.far (suc n) (omega arith) (p, c, at, rest)
    ]

next_known : (exits : List Exit) (b round a : ℕ) (o : Option Reach) → IsKnown exits b round [] a o → IsKnown exits b (round + 1) exits a o
next_known exits b round a None known = record {
  far = λ n few path. far_on exits b round a known n few path;
  later = λ p c at path. at;
}
next_known exits b round a (Some reach) known = let near = known.near in record {
  path = known.path;
  fewest = known.fewest;
  near = omega arith;
  begins = known.begins;
  least = λ n q c is at path. elim (known.least n q c is at path) [ inl less ↦ inl less | inr later ↦ absurd (contains_none (a, q, c) later.1) ];
}

-- the first link of a path of one more link than rounds were leads to a switch of the last round
at_last : (exits : List Exit) (b round a p c : ℕ) (o : Option Reach) → IsKnown exits b round exits c o → IsUpTo round o → Contains exits (a, p, c) → Path exits round c b
    → ((n : ℕ) → n ≤ round → Path exits n a b → ⊥) → IsAt round o
at_last exits b round a p c None known below at path far = absurd (known.far round (omega arith) path)
at_last exits b round a p c (Some reach) known below at path far =
    elim (cases_eq reach.links round) [ inl same ↦ same | inr apart ↦ absurd (far (suc reach.links) (omega arith) (p, c, at, known.path)) ]

start_round : (exits : List Exit) (b round : ℕ) (left : List Exit) (row : List (Option Reach)) (a : ℕ) (o : Option Reach) → AreInside (length row) exits → IsKnownRow exits b round exits row → IsBelow round row
    → ((e : Exit) → Contains exits e → IsAt round (get_or row e.2 None) → Contains left e) → IsKnown exits b round exits a o → IsUpTo round o → IsKnown exits b round left a o
start_round exits b round left row a None inside all below covers known up = record {
  far = known.far;
  later = λ p c at path.
      let next : c < length row = (inside (a, p, c) at).1 in
      covers (a, p, c) at (at_last exits b round a p c (get_or row c None) (all c next) (below c next) at path known.far);
}
start_round exits b round left row a (Some reach) inside all below covers known up = record {
  path = known.path;
  fewest = known.fewest;
  near = known.near;
  begins = known.begins;
  least = λ n q c is at path. elim (known.least n q c is at path) [ inl less ↦ inl less | inr later ↦ let last = later.0 in absurd (omega arith) ];
}

-- only the ways out to the switches of the last round need to be looked at
rest_known : (exits : List Exit) (b round : ℕ) (left : List Exit) (row : List (Option Reach)) → AreInside (length row) exits → IsKnownRow exits b round exits row → IsBelow round row
    → ((e : Exit) → Contains exits e → IsAt round (get_or row e.2 None) → Contains left e) → IsKnownRow exits b round left row
rest_known exits b round left row inside known below covers a within =
    start_round exits b round left row a (get_or row a None) inside known below covers (known a within) (below a within)

-- one more round was made
pub round_known : (exits : List Exit) (b round : ℕ) (left : List Exit) (row : List (Option Reach)) → AreInside (length row) exits → IsKnownRow exits b round exits row → IsBelow round row
    → ((e : Exit) → Contains exits e → IsAt round (get_or row e.2 None) → Contains left e) → LeadThere exits round left row → IsKnownRow exits b (round + 1) exits (after_round round left row)
round_known exits b round left row inside known below covers lead a within =
    next_known exits b round a (get_or (after_round round left row) a None) (run_known exits b round left row inside lead (rest_known exits b round left row inside known below covers) a within)

-- ---- the start and the end

none_near : (exits : List Exit) (b a n : ℕ) → a ≢ b → n ≤ 0 → Path exits n a b → ⊥
none_near exits b a zero apart few path = apart path
none_near exits b a (suc n) apart few path = omega arith

start_known : (exits : List Exit) (b a : ℕ) → a ≢ b → IsKnown exits b 0 exits a None
start_known exits b a apart = record { far = λ n few path. none_near exits b a n apart few path; later = λ p c at path. at }

pub length_first : (size b : ℕ) → length (at_home size b) ≡ size
length_first size b = length-set (replicate size None) b _ ∙ length-replicate size None

pub first_here : (size b : ℕ) → b < size → get_or (at_home size b) b None ≡ Some (record { links = 0; port = 0 })
first_here size b within = let long : length (replicate {A = Option Reach} size None) ≡ size = length-replicate size None in get_or-set_same (replicate size None) b _ None (omega arith)

pub first_other : (size b a : ℕ) → a < size → a ≢ b → get_or (at_home size b) a None ≡ None
first_other size b a within apart = get_or-set_other (replicate size None) b a _ None apart ∙ get_or-replicate {A = Option Reach} size a None None within

pub first_known : (exits : List Exit) (b size : ℕ) → b < size → IsKnownRow exits b 0 exits (at_home size b)
first_known exits b size within a in' =
    let less : a < size = subst (λ (k : ℕ). a < k) (length_first size b) in' in
    elim (cases_eq a b) [
      | inl same ↦ subst (λ (x : ℕ). IsKnown exits b 0 exits x (get_or (at_home size b) x None)) (sym same) (subst (IsKnown exits b 0 exits b) (sym (first_here size b within)) (record {
        path = refl;
        fewest = λ n path. omega arith;
        near = omega arith;
        begins = λ n is. absurd (omega arith);
        least = λ n q c is at path. absurd (omega arith);
      }))
      | inr apart ↦ subst (IsKnown exits b 0 exits a) (sym (first_other size b a less apart)) (start_known exits b a apart)
    ]

-- after as many rounds as there are switches
end_reach : (exits : List Exit) (b round size a : ℕ) (o : Option Reach) → AreInside size exits → size ≤ round → IsKnown exits b round exits a o → IsUpTo round o → IsReach exits b a o
end_reach exits b round size a None inside enough known below = λ n path.
    let sources = range_with_len 0 size in
    let long : length sources ≡ size = length_range 0 size in
    let short = short_path size sources exits (omega arith) (λ e at. contains_range 0 size e.0 (omega arith) (let less = (inside e at).0 in omega arith)) n a b path in
    let few = short.few in
    known.far short.links (omega arith) short.path
end_reach exits b round size a (Some reach) inside enough known below = record {
  path = known.path;
  fewest = known.fewest;
  begins = known.begins;
  least = λ n q is begins. elim (known.least n q begins.0 is begins.1 begins.2) [ inl less ↦ less | inr later ↦ let same = later.0 in absurd (omega arith) ];
}

pub end_row : (exits : List Exit) (b round : ℕ) (row : List (Option Reach)) → AreInside (length row) exits → length row ≤ round → IsKnownRow exits b round exits row → IsBelow round row → IsRow exits b row
end_row exits b round row inside enough known below a within = end_reach exits b round (length row) a (get_or row a None) inside enough (known a within) (below a within)

-- where no switch was found in the last round
is_reached : (exits : List Exit) (b round : ℕ) (left : List Exit) (a : ℕ) (o : Option Reach) → IsKnown exits b round left a o → IsUpTo round o
    → (o ≡ None) ⊎ ((m : ℕ) × (m ≤ round) × Path exits m a b)
is_reached exits b round left a None known below = inl refl
is_reached exits b round left a (Some reach) known below = inr (reach.links, below, known.path)

still_reached : (exits : List Exit) (b round a p c : ℕ) (o : Option Reach) → IsKnown exits b round [] a o → Contains exits (a, p, c) → (m : ℕ) → m ≤ round → Path exits m c b → o ≡ None → ⊥
still_reached exits b round a p c None known at m few rest none = far_on exits b round a known (suc m) (omega arith) (p, c, at, rest)
still_reached exits b round a p c (Some reach) known at m few rest none = cc

all_reached : (exits : List Exit) (b round : ℕ) (row : List (Option Reach)) → AreInside (length row) exits → IsKnownRow exits b round [] row → IsBelow round row
    → (n a : ℕ) → a < length row → Path exits n a b → get_or row a None ≡ None → ⊥
all_reached exits b round row inside known below zero a within path none =
    let here : IsUnknown exits b round [] a = subst (IsKnown exits b round [] a) none (known a within) in
    here.far zero (omega arith) path
all_reached exits b round row inside known below (suc n) a within (p, c, at, rest) none =
    let next : c < length row = (inside (a, p, c) at).1 in
    elim (is_reached exits b round [] c (get_or row c None) (known c next) (below c next)) [
      | inl nothing ↦ all_reached exits b round row inside known below n c next rest nothing
      | inr found ↦ still_reached exits b round a p c (get_or row a None) (known a within) at found.0 found.1 found.2 none
    ]

same_reach : (exits : List Exit) (b round a : ℕ) (o : Option Reach) → ((n : ℕ) → Path exits n a b → o ≡ None → ⊥) → IsKnown exits b round [] a o → IsReach exits b a o
same_reach exits b round a None reached known = λ n path. reached n path refl
same_reach exits b round a (Some reach) reached known = record {
  path = known.path;
  fewest = known.fewest;
  begins = known.begins;
  least = λ n q is begins. elim (known.least n q begins.0 is begins.1 begins.2) [ inl less ↦ less | inr later ↦ absurd (contains_none (a, q, begins.0) later.1) ];
}

pub done_row : (exits : List Exit) (b round : ℕ) (row : List (Option Reach)) → AreInside (length row) exits → IsKnownRow exits b round exits row → IsBelow round row
    → ((a : ℕ) → a < length row → IsAt round (get_or row a None) → ⊥) → IsRow exits b row
done_row exits b round row inside known below none a within =
    let rest : IsKnownRow exits b round [] row = rest_known exits b round [] row inside known below (λ e at there. absurd (none e.2 (inside e at).1 there)) in
    same_reach exits b round a (get_or row a None) (λ n path. all_reached exits b round row inside rest below n a within path) (rest a within)
