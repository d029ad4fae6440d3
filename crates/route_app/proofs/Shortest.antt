-- Paths: a shortest one is short, and the next hop begins one.
use Rattle.std.proofs.Common.{◌≡◌, ◌≢◌, ℕ, ◌+◌, ◌-◌, ◌<◌, ◌≤◌, ◌==◌, ◌&&◌, ◌⊎◌, true, false, cond, List, Option, Some, None, Contains, filter, length, map, min, not, ap, arith, inl, inr, refl, sym, subst, zero, suc}
use Rattle.std.proofs.lemmas.Bool.{and_from, and_parts, cases_eq, eq-eqb, eqb-true, ne_eqb, not_from_false, not_from_true}
use Rattle.std.proofs.lemmas.List.{length-map}
use Rattle.std.proofs.lemmas.List.Elements.{All-contains, filter_passes}
use Rattle.std.specs.List.{reduce}
use Rattle.route_app.specs.Paths.{Begins, Exit, IsNextHop, Path, has_path, next_hop, ports_on}
use Rattle.route_app.proofs.Members.{IsFirst, HasNone, any_found, any_holds, contains_before, contains_kept, contains_mapped, contains_picked, filter_shorter, first_number, least_of, picked_from}

-- ---- the test and the paths

pub path_from_test : (exits : List Exit) (n a b : ℕ) → has_path exits n a b ≡ true → Path exits n a b
path_from_test exits zero a b test = eqb-true a b test
path_from_test exits (suc n) a b test =
    let found = any_found (λ (e : Exit). e.0 == a && has_path exits n e.2 b) exits test in
    let e = found.0 in
    let both = and_parts (e.0 == a) (has_path exits n e.2 b) found.2 in
    (e.1, e.2, subst (λ (s : ℕ). Contains exits (s, e.1, e.2)) (eqb-true e.0 a both.0) found.1, path_from_test exits n e.2 b both.1)

pub test_from_path : (exits : List Exit) (n a b : ℕ) → Path exits n a b → has_path exits n a b ≡ true
test_from_path exits zero a b path = eq-eqb a b path
test_from_path exits (suc n) a b (p, c, at, rest) =
    any_holds (λ (e : Exit). e.0 == a && has_path exits n e.2 b) exits (a, p, c) at (and_from (a == a) (has_path exits n c b) (eq-eqb a a refl) (test_from_path exits n c b rest))

-- ---- a shortest path leaves no switch twice

path_within : (some all : List Exit) → ((e : Exit) → Contains some e → Contains all e) → (n a b : ℕ) → Path some n a b → Path all n a b
path_within some all within zero a b path = path
path_within some all within (suc n) a b (p, c, at, rest) = (p, c, within (a, p, c) at, path_within some all within n c b rest)

-- the ways out of other switches
abbrev others : ℕ → List Exit → List Exit
others a exits = filter (λ (e : Exit). not (e.0 == a)) exits

-- from a switch a path leads on that never leaves the switch again
record LeavesOnce (exits : List Exit) (a b : ℕ) : Type 0 where
  more : ℕ
  port : ℕ
  next : ℕ
  first : Contains exits (a, port, next)
  rest : Path (others a exits) more next b

-- a path either never leaves a switch, or it leaves it for the last time
last_visit : (exits : List Exit) (a n c b : ℕ) → Path exits n c b → Path (others a exits) n c b ⊎ LeavesOnce exits a b
last_visit exits a zero c b path = inl path
last_visit exits a (suc n) c b (p, d, at, rest) =
    elim (last_visit exits a n d b rest) [
      | inr leaves ↦ inr leaves
      | inl clear ↦ elim (cases_eq c a) [
        | inl same ↦ inr (record { more = n; port = p; next = d; first = subst (λ (s : ℕ). Contains exits (s, p, d)) same at; rest = clear })
        | inr apart ↦ inl (p, d, contains_kept (λ (e : Exit). not (e.0 == a)) exits (c, p, d) at (not_from_false (c == a) (ne_eqb c a apart)), clear)
      ]
    ]

leaves_once : (exits : List Exit) (a n c b p : ℕ) → Contains exits (a, p, c) → Path exits n c b → LeavesOnce exits a b
leaves_once exits a n c b p at rest =
    elim (last_visit exits a n c b rest) [
      | inl clear ↦ record { more = n; port = p; next = c; first = at; rest = clear }
      | inr leaves ↦ leaves
    ]

-- where there is a path there is one of no more links than there are switches that it can leave
pub record IsShort (exits : List Exit) (a b bound : ℕ) : Type 0 where
  pub links : ℕ
  pub few : links ≤ bound
  pub path : Path exits links a b

pub short_path : (k : ℕ) (sources : List ℕ) (exits : List Exit) → length sources ≤ k → ((e : Exit) → Contains exits e → Contains sources e.0) → (n a b : ℕ) → Path exits n a b → IsShort exits a b (length sources)
short_path k sources exits few known zero a b path = record { links = 0; few = omega arith; path = path }
short_path zero sources exits few known (suc n) a b (p, c, at, rest) = let source = known (a, p, c) at in let within = source.1 in absurd (omega arith)
short_path (suc k) sources exits few known (suc n) a b (p, c, at, rest) =
    let once : LeavesOnce exits a b = leaves_once exits a n c b p at rest in
    let left = filter (λ (s : ℕ). not (s == a)) sources in
    let fewer : length left < length sources = filter_shorter (λ (s : ℕ). not (s == a)) sources a (known (a, p, c) at) (not_from_true (a == a) (eq-eqb a a refl)) in
    let short = short_path k left (others a exits) (omega arith) (λ e kept. contains_kept (λ (s : ℕ). not (s == a)) sources e.0 (known e (contains_before (λ (x : Exit). not (x.0 == a)) exits e kept)) (All-contains (λ (x : Exit). not (x.0 == a) ≡ true) (others a exits) e (filter_passes (λ (x : Exit). not (x.0 == a)) exits) kept)) once.more once.next b once.rest in
    let less = short.few in
    record {
      links = suc short.links;
      few = omega arith;
      path = (once.port, once.next, once.first, path_within (others a exits) exits (λ e. contains_before (λ (x : Exit). not (x.0 == a)) exits e) short.links once.next b short.path);
    }

short_by_exits : (exits : List Exit) (n a b : ℕ) → Path exits n a b → IsShort exits a b (length exits)
short_by_exits exits n a b path =
    let sources = map (λ (e : Exit). e.0) exits in
    let same : length sources ≡ length exits = length-map exits (λ (e : Exit). e.0) in
    subst (λ (k : ℕ). IsShort exits a b k) same (short_path (length sources) sources exits (omega arith) (λ e at. contains_mapped (λ (x : Exit). x.0) exits e at) n a b path)

-- ---- the next hop

-- the ports of the ways that lead on
ports_from : (exits : List Exit) (n a b p : ℕ) → Contains (ports_on exits n a b) p → Begins exits n a b p
ports_from exits n a b p at =
    let found = picked_from (λ (e : Exit). cond (e.0 == a && has_path exits n e.2 b) (Some e.1) None) exits p at in
    let e = found.0 in
    (elim (e.0 == a && has_path exits n e.2 b) as (λ t. (e.0 == a && has_path exits n e.2 b) ≡ t → cond t (Some e.1) None ≡ Some p → Begins exits n a b p) [
      | true ↦ λ test is.
          let both = and_parts (e.0 == a) (has_path exits n e.2 b) test in
          let port : e.1 ≡ p = cc in
          (e.2, subst (λ (q : ℕ). Contains exits (a, q, e.2)) port (subst (λ (s : ℕ). Contains exits (s, e.1, e.2)) (eqb-true e.0 a both.0) found.1), path_from_test exits n e.2 b both.1)
      | false ↦ λ test is. absurd cc
    ]) refl found.2

ports_have : (exits : List Exit) (n a b p : ℕ) → Begins exits n a b p → Contains (ports_on exits n a b) p
ports_have exits n a b p (c, at, rest) =
    contains_picked (λ (e : Exit). cond (e.0 == a && has_path exits n e.2 b) (Some e.1) None) exits (a, p, c) p at
    (ap (λ t. cond t (Some p) None) (and_from (a == a) (has_path exits n c b) (eq-eqb a a refl) (test_from_path exits n c b rest)))

-- a path between two switches has a first link
first_link : (exits : List Exit) (d a b : ℕ) → a ≢ b → Path exits d a b → (1 ≤ d) × ((p : ℕ) × Begins exits (d - 1) a b p)
first_link exits zero a b apart path = absurd (apart path)
first_link exits (suc n) a b apart (p, c, at, rest) =
    let same : n ≡ suc n - 1 = omega arith in
    (omega arith, (p, (c, at, subst (λ (k : ℕ). Path exits k c b) same rest)))

pub begins_path : (exits : List Exit) (n a b p : ℕ) → Begins exits n a b p → Path exits (n + 1) a b
begins_path exits n a b p (c, at, rest) = let same : suc n ≡ n + 1 = omega arith in subst (λ (k : ℕ). Path exits k a b) same (p, c, at, rest)

hop_at : (exits : List Exit) (a b d : ℕ) → a ≢ b → IsFirst (λ n. has_path exits n a b) 0 (length exits + 1) d → IsNextHop exits a b (reduce min (ports_on exits (d - 1) a b))
hop_at exits a b d apart is =
    let begun = first_link exits d a b apart (path_from_test exits d a b is.passes) in
    let least = least_of (ports_on exits (d - 1) a b) begun.1.0 (ports_have exits (d - 1) a b begun.1.0 begun.1.1) in
    let some = begun.0 in
    subst (IsNextHop exits a b) (sym least.1) (record {
      apart = apart;
      more = d - 1;
      begins = ports_from exits (d - 1) a b least.0 least.2;
      fewest = λ n path. let no_less : d ≤ n = is.first n (omega arith) (test_from_path exits n a b path) in omega arith;
      least = λ q begins. least.3 q (ports_have exits (d - 1) a b q begins);
    })

no_path : (exits : List Exit) (a b : ℕ) → HasNone (λ n. has_path exits n a b) 0 (length exits + 1) → (n : ℕ) → Path exits n a b → ⊥
no_path exits a b none n path =
    let short = short_by_exits exits n a b path in
    let few = short.few in
    none.fails short.links (omega arith) (omega arith) (test_from_path exits short.links a b short.path)

pub is_next_hop : (exits : List Exit) (a b : ℕ) → IsNextHop exits a b (next_hop exits a b)
is_next_hop exits a b =
    elim (cases_eq a b) [
      | inl same ↦ rw (eq-eqb a b same) (inl same)
      | inr apart ↦ rw (ne_eqb a b apart) (elim (first_number (λ n. has_path exits n a b) 0 (length exits + 1)) [
        | inl found ↦ rw found.1.found (hop_at exits a b found.0 apart found.1)
        | inr none ↦ rw none.nothing (inr (no_path exits a b none))
      ])
    ]

-- ---- there is one

pub one_next_hop : (exits : List Exit) (a b : ℕ) (one other : Option ℕ) → IsNextHop exits a b one → IsNextHop exits a b other → one ≡ other
one_next_hop exits a b None None is too = refl
one_next_hop exits a b None (Some q) is too = elim is [ inl same ↦ absurd (too.apart same) | inr none ↦ absurd (none (too.more + 1) (begins_path exits too.more a b q too.begins)) ]
one_next_hop exits a b (Some p) None is too = elim too [ inl same ↦ absurd (is.apart same) | inr none ↦ absurd (none (is.more + 1) (begins_path exits is.more a b p is.begins)) ]
one_next_hop exits a b (Some p) (Some q) is too =
    let low = is.fewest (too.more + 1) (begins_path exits too.more a b q too.begins) in
    let high = too.fewest (is.more + 1) (begins_path exits is.more a b p is.begins) in
    let same : is.more ≡ too.more = omega arith in
    let below : p ≤ q = is.least q (subst (λ (n : ℕ). Begins exits n a b q) (sym same) too.begins) in
    let above : q ≤ p = too.least p (subst (λ (n : ℕ). Begins exits n a b p) same is.begins) in
    ap (λ (x : ℕ). Some x) (omega arith)
