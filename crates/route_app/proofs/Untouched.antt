-- A row that no changed link touches is right for the links that can be used now.
use Rattle.std.proofs.Common.{◌≡◌, ℕ, ◌+◌, ◌<◌, ◌≤◌, ◌==◌, ◌&&◌, ◌||◌, ◌⊎◌, Bool, true, false, List, [], ◌∷◌, Option, Some, None, Contains, get_or, length, nat_lt, ap, arith, inl, inr, refl, sym, subst, zero, suc}
use Rattle.std.proofs.lemmas.Bool.{and_cases, cases_Bool, cases_lt, eqb-false, ltb-false}
use Rattle.route_app.specs.Changes.{IsUntouched, begins_by, is_shorter, is_touched, is_used, would_help}
use Rattle.route_app.specs.Paths.{Exit, Path, exits_of}
use Rattle.route_app.specs.Table.{AreWithin, IsReach, IsRow, ways}
use Rattle.route_app.specs.Ways.{is_down}
use Rattle.route_app.specs.declared.reach.Reach.{Reach}
use Rattle.route_app.proofs.Levels.{AreInside}
use Rattle.route_app.proofs.WaysIn.{IsOf, Link, link_at, link_of, two_ways, way_of, ways_inside}

-- a row has a path from a switch of at most so many links
abbrev Within : ℕ → Option Reach → Type 0
Within n None = ⊥
Within n (Some reach) = reach.links ≤ n

-- what is kept and what is new when the ways out are others
pub record IsChange (old new : List Exit) (row : List (Option Reach)) : Type 0 where
  pub kept : (e : Exit) → Contains old e → Contains new e ⊎ (is_used row e ≡ false)
  pub more : (e : Exit) → Contains new e → Contains old e ⊎ (would_help row e ≡ false)
  pub inside : AreInside (length row) old
  pub next : AreInside (length row) new

-- ---- no path is shorter

first_step : (old : List Exit) (b a p c n : ℕ) (here there : Option Reach) → IsReach old b a here → IsReach old b c there → Contains old (a, p, c) → Within n there → Within (suc n) here
first_step old b a p c n here None is next at within = absurd within
first_step old b a p c n None (Some there) is next at within = absurd (is (suc there.links) (p, c, at, next.path))
first_step old b a p c n (Some here) (Some there) is next at within = let few = is.fewest (suc there.links) (p, c, at, next.path) in omega arith

new_step : (p n : ℕ) (here there : Option Reach) → is_shorter p here there ≡ false → Within n there → Within (suc n) here
new_step p n here None test within = absurd within
new_step p n None (Some there) test within = absurd cc
new_step p n (Some here) (Some there) test within =
    elim (cases_Bool (nat_lt (there.links + 1) here.links)) [
      | inl less ↦ absurd cc
      | inr more ↦ let low = ltb-false (there.links + 1) here.links more in omega arith
    ]

zero_step : (old : List Exit) (b : ℕ) (o : Option Reach) → IsReach old b b o → Within 0 o
zero_step old b None is = is 0 refl
zero_step old b (Some reach) is = is.fewest 0 refl

no_nearer : (old new : List Exit) (row : List (Option Reach)) (b : ℕ) → IsChange old new row → IsRow old b row → (n a : ℕ) → a < length row → Path new n a b → Within n (get_or row a None)
no_nearer old new row b change right zero a within path = subst (λ (x : ℕ). Within 0 (get_or row x None)) (sym path) (zero_step old b (get_or row b None) (right b (subst (λ (x : ℕ). x < length row) path within)))
no_nearer old new row b change right (suc n) a within (p, c, at, rest) =
    let next : c < length row = (change.next (a, p, c) at).1 in
    let there = no_nearer old new row b change right n c next rest in
    elim (change.more (a, p, c) at) [
      | inl was ↦ first_step old b a p c n (get_or row a None) (get_or row c None) (right a within) (right c next) was there
      | inr idle ↦ new_step p n (get_or row a None) (get_or row c None) idle there
    ]

-- ---- the paths are still there

-- the first link of the path that a row has
record IsStep (old : List Exit) (row : List (Option Reach)) (b a n : ℕ) (reach : Reach) : Type 0 where
  c : ℕ
  there : Reach
  at : Contains old (a, reach.port, c)
  within : c < length row
  is : get_or row c None ≡ Some there
  links : there.links ≡ n
  path : Path old n c b

step_there : (old : List Exit) (b a p c n : ℕ) (reach : Reach) (there : Option Reach) → reach.links ≡ suc n → ((m : ℕ) → Path old m a b → reach.links ≤ m) → Contains old (a, p, c) → Path old n c b → IsReach old b c there
    → (t : Reach) × (there ≡ Some t) × (t.links ≡ n)
step_there old b a p c n reach None is fewest at path next = absurd (next n path)
step_there old b a p c n reach (Some there) is fewest at path next =
    let low = next.fewest n path in
    let high = fewest (suc there.links) (p, c, at, next.path) in
    (there, refl, omega arith)

step_of : (old : List Exit) (row : List (Option Reach)) (b a n : ℕ) (reach : Reach) → AreInside (length row) old → IsRow old b row → IsReach old b a (Some reach) → reach.links ≡ suc n → IsStep old row b a n reach
step_of old row b a n reach inside right way is =
    let begun = way.begins n (omega arith) in
    let next = (inside (a, reach.port, begun.0) begun.1).1 in
    let found = step_there old b a reach.port begun.0 n reach (get_or row begun.0 None) is way.fewest begun.1 begun.2 (right begun.0 next) in
    record { c = begun.0; there = found.0; at = begun.1; within = next; is = found.1; links = found.2; path = begun.2 }

-- the way out that a row has is used
used_test : (row : List (Option Reach)) (a c n : ℕ) (reach there : Reach) → get_or row a None ≡ Some reach → get_or row c None ≡ Some there → there.links ≡ n → reach.links ≡ suc n → is_used row (a, reach.port, c) ≡ false → ⊥
used_test row a c n reach there here next links is test =
    let both : begins_by reach.port (Some reach) (Some there) ≡ false = subst (λ (o : Option Reach). begins_by reach.port (Some reach) o ≡ false) next (subst (λ (o : Option Reach). begins_by reach.port o (get_or row c None) ≡ false) here test) in
    elim (and_cases (reach.links == there.links + 1) (reach.port == reach.port) both) [
      | inl apart ↦ eqb-false reach.links (there.links + 1) apart (omega arith)
      | inr apart ↦ eqb-false reach.port reach.port apart refl
    ]

still_begins : (old new : List Exit) (row : List (Option Reach)) (b a n : ℕ) (reach : Reach) → IsChange old new row → get_or row a None ≡ Some reach → reach.links ≡ suc n → (step : IsStep old row b a n reach) → Contains new (a, reach.port, step.c)
still_begins old new row b a n reach change here is step =
    elim (change.kept (a, reach.port, step.c) step.at) [ inl there ↦ there | inr unused ↦ absurd (used_test row a step.c n reach step.there here step.is step.links is unused) ]

still_path : (old new : List Exit) (row : List (Option Reach)) (b : ℕ) → IsChange old new row → IsRow old b row → (n a : ℕ) (reach : Reach) → a < length row → get_or row a None ≡ Some reach → reach.links ≡ n → Path new n a b
still_path old new row b change right zero a reach within here is =
    let way : IsReach old b a (Some reach) = subst (IsReach old b a) here (right a within) in
    subst (λ (n : ℕ). Path old n a b) is way.path
still_path old new row b change right (suc n) a reach within here is =
    let way : IsReach old b a (Some reach) = subst (IsReach old b a) here (right a within) in
    let step : IsStep old row b a n reach = step_of old row b a n reach change.inside right way is in
    (reach.port, step.c, still_begins old new row b a n reach change here is step, still_path old new row b change right n step.c step.there step.within step.is step.links)

-- ---- the least port

old_least : (old : List Exit) (b a q c n : ℕ) (reach : Reach) (there : Option Reach) → IsReach old b a (Some reach) → reach.links ≡ n + 1 → Contains old (a, q, c) → IsReach old b c there → Within n there → reach.port ≤ q
old_least old b a q c n reach None way is at next within = absurd within
old_least old b a q c n reach (Some there) way is at next within =
    let few = way.fewest (suc there.links) (q, c, at, next.path) in
    let same : there.links ≡ n = omega arith in
    way.least n q is (c, at, subst (λ (k : ℕ). Path old k c b) same next.path)

new_least : (q n : ℕ) (reach : Reach) (there : Option Reach) → reach.links ≡ n + 1 → is_shorter q (Some reach) there ≡ false → Within n there → reach.port ≤ q
new_least q n reach None is test within = absurd within
new_least q n reach (Some there) is test within =
    elim (cases_Bool (nat_lt (there.links + 1) reach.links)) [
      | inl less ↦ absurd cc
      | inr more ↦
          let low = ltb-false (there.links + 1) reach.links more in
          let rest : (reach.links == there.links + 1 && nat_lt q reach.port) ≡ false = subst (λ t. (t || (reach.links == there.links + 1 && nat_lt q reach.port)) ≡ false) more test in
          elim (and_cases (reach.links == there.links + 1) (nat_lt q reach.port) rest) [
            | inl apart ↦ absurd (eqb-false reach.links (there.links + 1) apart (omega arith))
            | inr above ↦ let high = ltb-false q reach.port above in omega arith
          ]
    ]

-- ---- the row

none_still : (old new : List Exit) (row : List (Option Reach)) (b a : ℕ) → IsChange old new row → IsRow old b row → a < length row → get_or row a None ≡ None → IsReach new b a None
none_still old new row b a change right within none n path = subst (Within n) none (no_nearer old new row b change right n a within path)

some_still : (old new : List Exit) (row : List (Option Reach)) (b a : ℕ) (reach : Reach) → IsChange old new row → IsRow old b row → a < length row → get_or row a None ≡ Some reach → IsReach new b a (Some reach)
some_still old new row b a reach change right within here =
    let way : IsReach old b a (Some reach) = subst (IsReach old b a) here (right a within) in
    record {
      path = still_path old new row b change right reach.links a reach within here refl;
      fewest = λ n path. subst (Within n) here (no_nearer old new row b change right n a within path);
      begins = λ n is.
          let one : reach.links ≡ suc n = omega arith in
          let step : IsStep old row b a n reach = step_of old row b a n reach change.inside right way one in
          (step.c, still_begins old new row b a n reach change here one step, still_path old new row b change right n step.c step.there step.within step.is step.links);
      least = λ n q is begins.
          let next : begins.0 < length row = (change.next (a, q, begins.0) begins.1).1 in
          let there = no_nearer old new row b change right n begins.0 next begins.2 in
          elim (change.more (a, q, begins.0) begins.1) [
            | inl was ↦ old_least old b a q begins.0 n reach (get_or row begins.0 None) way is was (right begins.0 next) there
            | inr idle ↦ new_least q n reach (get_or row begins.0 None) is (subst (λ (o : Option Reach). is_shorter q o (get_or row begins.0 None) ≡ false) here idle) there
          ];
    }

reach_still : (old new : List Exit) (row : List (Option Reach)) (b a : ℕ) (o : Option Reach) → IsChange old new row → IsRow old b row → a < length row → get_or row a None ≡ o → IsReach new b a o
reach_still old new row b a None change right within is = none_still old new row b a change right within is
reach_still old new row b a (Some reach) change right within is = some_still old new row b a reach change right within is

pub row_still : (old new : List Exit) (row : List (Option Reach)) (b : ℕ) → IsChange old new row → IsRow old b row → IsRow new b row
row_still old new row b change right a within = reach_still old new row b a (get_or row a None) change right within refl

-- ---- links that are told down, or up again

or_off : (one two : Bool) → (one || two) ≡ false → (one ≡ false) × (two ≡ false)
or_off true two off = absurd cc
or_off false two off = (refl, off)

-- a way of a link that is told down is not used, and one of a link that is up again does not help
dropped : (row : List (Option Reach)) (link : Link) (e : Exit) (was now : Bool) → was ≡ false → now ≡ true → is_touched row link was now ≡ false → Contains (exits_of (link ∷ [])) e → is_used row e ≡ false
dropped row link e was now before after off at =
    let test : is_touched row link false true ≡ false = subst (λ t. is_touched row link t true ≡ false) before (subst (λ t. is_touched row link was t ≡ false) after off) in
    let both = or_off (is_used row (link.0, link.1, link.2)) (is_used row (link.2, link.3, link.0)) test in
    elim (two_ways link e at) [
      | inl same ↦ subst (λ (x : Exit). is_used row x ≡ false) same both.0
      | inr same ↦ subst (λ (x : Exit). is_used row x ≡ false) same both.1
    ]

gained : (row : List (Option Reach)) (link : Link) (e : Exit) (was now : Bool) → was ≡ true → now ≡ false → is_touched row link was now ≡ false → Contains (exits_of (link ∷ [])) e → would_help row e ≡ false
gained row link e was now before after off at =
    let test : is_touched row link true false ≡ false = subst (λ t. is_touched row link t false ≡ false) before (subst (λ t. is_touched row link was t ≡ false) after off) in
    let both = or_off (would_help row (link.0, link.1, link.2)) (would_help row (link.2, link.3, link.0)) test in
    elim (two_ways link e at) [
      | inl same ↦ subst (λ (x : Exit). would_help row x ≡ false) same both.0
      | inr same ↦ subst (λ (x : Exit). would_help row x ≡ false) same both.1
    ]

change_of : (row : List (Option Reach)) (links : List Link) (before now : List (Bool × Bool)) → length before ≡ length links → length now ≡ length links → AreWithin (length row) links → IsUntouched row links before now
    → IsChange (ways links before) (ways links now) row
change_of row links before now was is within off = record {
  kept = λ e at.
      let of : IsOf links before e = link_of links before e at in
      elim (cases_Bool (is_down now of.k)) [
        | inl down ↦ inr (dropped row (link_at links of.k) e (is_down before of.k) (is_down now of.k) of.up down (off of.k of.within) of.at)
        | inr up ↦ inl (way_of links now e of.k is of.within up of.at)
      ];
  more = λ e at.
      let of : IsOf links now e = link_of links now e at in
      elim (cases_Bool (is_down before of.k)) [
        | inl down ↦ inr (gained row (link_at links of.k) e (is_down before of.k) (is_down now of.k) down of.up (off of.k of.within) of.at)
        | inr up ↦ inl (way_of links before e of.k was of.within up of.at)
      ];
  inside = ways_inside (length row) links before within;
  next = ways_inside (length row) links now within;
}

pub untouched_row : (row : List (Option Reach)) (links : List Link) (before now : List (Bool × Bool)) (b : ℕ) → length before ≡ length links → length now ≡ length links → AreWithin (length row) links
    → IsUntouched row links before now → IsRow (ways links before) b row → IsRow (ways links now) b row
untouched_row row links before now b was is within off right = row_still (ways links before) (ways links now) row b (change_of row links before now was is within off) right

-- where the flags are the same nothing is touched
pub same_untouched : (row : List (Option Reach)) (link : Link) (was now : Bool) → was ≡ now → is_touched row link was now ≡ false
same_untouched row link true true same = refl
same_untouched row link false false same = refl
same_untouched row link true false same = absurd cc
same_untouched row link false true same = absurd cc

pub all_untouched : (row : List (Option Reach)) (links : List Link) (before now : List (Bool × Bool)) (start end at : ℕ) → length now ≡ length links
    → ((k : ℕ) → k < length now → (k < start) ⊎ (end ≤ k) → get_or before k (false, false) ≡ get_or now k (false, false)) → end ≤ at
    → ((k : ℕ) → start ≤ k → k < at → is_touched row (link_at links k) (is_down before k) (is_down now k) ≡ false) → IsUntouched row links before now
all_untouched row links before now start end at long same over off k within =
    let inside : k < length now = omega arith in
    let outside : (get_or before k (false, false) ≡ get_or now k (false, false)) → is_touched row (link_at links k) (is_down before k) (is_down now k) ≡ false =
    λ is. same_untouched row (link_at links k) (is_down before k) (is_down now k) (ap (λ (ends : Bool × Bool). ends.0 || ends.1) is) in
    elim (cases_lt k start) [
      | inl less ↦ outside (same k inside (inl less))
      | inr more ↦ elim (cases_lt k end) [ inl below ↦ off k more (omega arith) | inr above ↦ outside (same k inside (inr above)) ]
    ]
