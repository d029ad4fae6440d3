-- What holds of all seats together stays so at each kind of step.
use Rattle.std.proofs.Common.{◌≡◌, ◌≢◌, ℕ, ◌+◌, ◌<◌, ◌≤◌, Bool, true, false, true≢false, ◌⊎◌, ⊎_elim, inl, inr, List, [], ◌∷◌, ◌++◌, length, set, Some, slice_get, refl, ap, sym, ◌∙◌, subst, arith, le_refl, lt_of_not-le, length-append}
use Rattle.std.specs.List.{concat}
use Rattle.std.specs.Prelude.{nat_lt, cond, max}
use Rattle.std.proofs.lemmas.Bool.Decides.{nat_tests}
use mathlib.Core.List.{IsPrefix}
use mathlib.Core.Option.{some, some-injective}
use mathlib.Core.Logic.{dite}
use native.Mathlib.Decide.{ℕ_discrete, dec_le}
use lib.ListN.{get_elem?}
use Rattle.atomic_table.proofs.Lists.{at_set, at_snoc}
use Rattle.turn_book.specs.declared.view.View.{View}
use Rattle.turn_book.specs.Places.{times, once_between, but_last, last_alone}
use Rattle.turn_book.specs.History.{marks_of, places_of, IsMarked, IsAway, Sits, Seated}
use Rattle.turn_book.specs.Steps.{opener, committed, parent, child, longer, shorter, both, joined_away}
use Rattle.turn_book.specs.Words.{LastMarkIsFree}
use Rattle.turn_book.proofs.Sums.{total_set, total_snoc, total_at, total_two, total_one, times-append, times_here, times_other, concat-append, times-with_place, length-with_place, between_below, between_more, between_most, all_ascend_more, all_ascend-append, halves, length-last_alone}
use Rattle.turn_book.proofs.Begins.{prefix_self, prefix_trans, prefix_shorter, prefix_more, prefix_back, prefix_get, prefix_length, get_below, get_snoc}

pub longer_begins : {E : Type 0} (xs ys log : List E) → IsPrefix xs log → IsPrefix ys log → IsPrefix (longer xs ys) log
longer_begins {E} xs ys log p q = cases (nat_lt (length xs) (length ys))
  where
    cases : (b : Bool) → IsPrefix (cond b ys xs) log
    cases true = q
    cases false = p

-- of two beginnings of one list the shorter begins the longer
pub shorter_begins : {E : Type 0} (xs ys log : List E) → IsPrefix xs log → IsPrefix ys log → IsPrefix (shorter xs ys) (longer xs ys)
shorter_begins {E} xs ys log p q = cases (nat_lt (length xs) (length ys)) (λ e. grind (arith, nat_tests)) (λ e. grind (arith, nat_tests))
  where
    cases : (b : Bool) → (b ≡ true → length xs ≤ length ys) → (b ≡ false → length ys ≤ length xs) → IsPrefix (cond b xs ys) (cond b ys xs)
    cases true less more = prefix_shorter xs ys log p q (less refl)
    cases false less more = prefix_shorter ys xs log q p (more refl)

-- so both begin it
pub both_begin : {E : Type 0} (xs ys : List E) → IsPrefix (shorter xs ys) (longer xs ys) → IsPrefix xs (longer xs ys) × IsPrefix ys (longer xs ys)
both_begin {E} xs ys = cases (nat_lt (length xs) (length ys))
  where
    cases : (b : Bool) → IsPrefix (cond b xs ys) (cond b ys xs) → IsPrefix xs (cond b ys xs) × IsPrefix ys (cond b ys xs)
    cases true p = (p, prefix_self ys)
    cases false p = (prefix_self xs, p)

pub longer_than : {E : Type 0} (xs ys : List E) → (length xs ≤ length (longer xs ys)) × (length ys ≤ length (longer xs ys))
longer_than xs ys = grind (arith, nat_tests)

-- the longer of two lengths
pub length-longer : {E : Type 0} (xs ys : List E) → length (longer xs ys) ≡ max (length xs) (length ys)
length-longer xs ys = grind (arith, nat_tests)

module _ {E S : Type 0} where
  pub set_each : (P : ℕ → View E S → Type 0) (views : List (View E S)) (id : ℕ) (w : View E S) → P id w → ((j : ℕ) (u : View E S) → j ≢ id → get_elem? views j ≡ some u → P j u)
      → (j : ℕ) (u : View E S) → get_elem? (set views id w) j ≡ some u → P j u
  set_each P views id w mine others j u e = ⊎_elim (λ (x : (j ≡ id) × (w ≡ u)). subst (λ (y : ℕ × View E S). P y.0 y.1) (λ i. (sym x.0 i, x.1 i)) mine)
      (λ (x : (j ≢ id) × (get_elem? views j ≡ some u)). others j u x.0 x.1) (at_set views id j w u e)

  pub snoc_each : (P : ℕ → View E S → Type 0) (views : List (View E S)) (w : View E S) → ((j : ℕ) (u : View E S) → get_elem? views j ≡ some u → P j u) → ((j : ℕ) → P j w)
      → (j : ℕ) (u : View E S) → get_elem? (views ++ w ∷ []) j ≡ some u → P j u
  snoc_each P views w old new j u e = ⊎_elim (old j u) (λ (t : w ≡ u). subst (P j) t (new j)) (at_snoc views w u j e)

  pub live_marks : (v : View E S) → v.live ≡ true → marks_of v ≡ v.marks
  live_marks v live = rw live refl

  pub live_places : (v : View E S) → v.live ≡ true → places_of v ≡ concat v.own
  live_places v live = rw live refl

  pub gone_places : (v : View E S) → v.live ≡ false → places_of v ≡ []
  gone_places v gone = rw gone refl

  -- the seat at a place is one
  pub one_at : (views : List (View E S)) (id : ℕ) (v w : View E S) → get_elem? views id ≡ some v → get_elem? views id ≡ some w → v ≡ w
  one_at views id v w a b = some-injective v w (sym a ∙ b)

-- at the opening no entry is past it
pub opener_marked : {E S : Type 0} (mark : E → ℕ) (log : List E) (subject : S) → IsMarked mark (opener log subject)
opener_marked mark log subject = record {
  owned = λ p e le h. let below = get_below log p e h in absurd (omega arith);
  opening = le_refl (length log);
  past = λ p below. refl;
  within = λ p le. refl;
  ascends = (tt, tt);
}

-- a seat that gives its last mark away keeps its own calls
pub parent_marked : {E S : Type 0} (mark : E → ℕ) (v : View E S) → IsMarked mark v → LastMarkIsFree mark v → IsMarked mark (parent v)
parent_marked mark v marked free = record {
  owned = λ p e le h.
      let own = marked.owned p e le h in
      let parts = ap (times (mark e)) (sym (halves v.marks)) ∙ times-append (mark e) (but_last v.marks) (last_alone v.marks) in
      dite (ℕ_discrete (times p (concat v.own)) 0) (λ none. omega arith) (λ some_times. let none = free p e (omega arith) h in omega arith);
  opening = marked.opening;
  past = marked.past;
  within = marked.within;
  ascends = marked.ascends;
}

module _ {E S : Type 0} (mark : E → ℕ) (start : ℕ) (subject : S) where
  abbrev V : Type 0
  V = View E S

  abbrev All : List E → List V → Type 0
  All = Seated mark start subject

  abbrev One : List E → V → Type 0
  One = Sits mark start subject

  -- a view that is not live is one of a closed book, or of a seat that was joined away
  abbrev Away : V → Type 0
  Away u = u.live ≡ false → u.closed ≡ false → IsAway u

  is_live : {v : V} → v.live ≡ true → Away v
  is_live live gone = absurd (true≢false (sym live ∙ gone))

  set_away : (views : List V) (id : ℕ) (w : V) → Away w → ((j : ℕ) (u : V) → get_elem? views j ≡ some u → Away u) → (j : ℕ) (u : V) → get_elem? (set views id w) j ≡ some u → Away u
  set_away views id w mine others = set_each (λ j u. Away u) views id w mine (λ j u _ e. others j u e)

  -- a step that changes no mark, no own place and no entry
  pub same_seated : (log : List E) (views : List V) (id : ℕ) (v w : V) → All log views → get_elem? views id ≡ some v → marks_of w ≡ marks_of v → places_of w ≡ places_of v → w.live ≡ true → One log w
      → All log (set views id w)
  same_seated log views id v w r at same_marks same_places live sits = record {
    marks = λ m. let s = total_set (λ u. times m (marks_of u)) views id v w at in let k = ap (times m) same_marks in let b = r.marks m in omega arith;
    shares = let s = total_set (λ u. length (marks_of u)) views id v w at in let k = ap length same_marks in let b = r.shares in omega arith;
    places = λ p. let s = total_set (λ u. times p (places_of u)) views id v w at in let k = ap (times p) same_places in let b = r.places p in omega arith;
    calls = let s = total_set (λ u. length (places_of u)) views id v w at in let k = ap length same_places in let b = r.calls in omega arith;
    each = set_each (λ j u. u.live ≡ true → One log u) views id w (λ _. sits) (λ j u _ e. r.each j u e);
    away = set_away views id w (is_live live) r.away;
  }

  -- a view that does not count is added
  pub idle_seated : (log : List E) (views : List V) (w : V) → All log views → w.live ≡ false → marks_of w ≡ [] → places_of w ≡ [] → Away w → All log (views ++ w ∷ [])
  idle_seated log views w r gone no_marks no_places away = record {
    marks = λ m. let s = total_snoc (λ u. times m (marks_of u)) views w in let k = ap (times m) no_marks in let b = r.marks m in omega arith;
    shares = let s = total_snoc (λ u. length (marks_of u)) views w in let k = ap length no_marks in let b = r.shares in omega arith;
    places = λ p. let s = total_snoc (λ u. times p (places_of u)) views w in let k = ap (times p) no_places in let b = r.places p in omega arith;
    calls = let s = total_snoc (λ u. length (places_of u)) views w in let k = ap length no_places in let b = r.calls in omega arith;
    each = snoc_each (λ j u. u.live ≡ true → One log u) views w (λ j u e. r.each j u e) (λ j live. absurd (true≢false (sym live ∙ gone)));
    away = snoc_each (λ j u. Away u) views w r.away (λ j. away);
  }

  -- where one live seat has all shares, no other is live
  pub all_alone : (log : List E) (views : List V) (id : ℕ) (v : V) → All log views → get_elem? views id ≡ some v → v.live ≡ true → length v.marks ≡ 64
      → (j : ℕ) (u : V) → j ≢ id → get_elem? views j ≡ some u → u.live ≡ true → ⊥
  all_alone log views id v r at live all j u apart e alive =
      let two = total_two (λ u. length (marks_of u)) views j id u v apart e at in
      let a = ap length (live_marks v live) in let b = ap length (live_marks u alive) in
      let some_one = (r.each j u e alive).some_mark in let sum = r.shares in omega arith

  pub few_marks : (log : List E) (views : List V) (id : ℕ) (v : V) → All log views → get_elem? views id ≡ some v → v.live ≡ true → length v.marks ≤ 64
  few_marks log views id v r at live = let one = total_at (λ u. length (marks_of u)) views id v at in let a = ap length (live_marks v live) in let sum = r.shares in omega arith

  pub few_places : (log : List E) (views : List V) (id : ℕ) (v : V) → All log views → get_elem? views id ≡ some v → v.live ≡ true → start + length (concat v.own) ≤ length log
  few_places log views id v r at live = let one = total_at (λ u. length (places_of u)) views id v at in let a = ap length (live_places v live) in let sum = r.calls in omega arith

  -- a seat with all shares has all calls
  pub all_places : (log : List E) (views : List V) (id : ℕ) (v : V) → All log views → get_elem? views id ≡ some v → v.live ≡ true → length v.marks ≡ 64
      → (start + length (concat v.own) ≡ length log) × ((p : ℕ) → times p (concat v.own) ≡ once_between start (length log) p)
  all_places log views id v r at live all = (
    (let one = total_one (λ u. length (places_of u)) views id v at (λ j u apart e. none (λ l. length l) refl j u apart e (alive u)) in
        let a = ap length (live_places v live) in let sum = r.calls in omega arith),
    λ p. let one = total_one (λ u. times p (places_of u)) views id v at (λ j u apart e. none (times p) refl j u apart e (alive u)) in
        let a = ap (times p) (live_places v live) in let sum = r.places p in omega arith,
  )
    where
      alive : (u : V) → (u.live ≡ true) ⊎ (u.live ≡ false)
      alive u = either u.live
        where
          either : (b : Bool) → (b ≡ true) ⊎ (b ≡ false)
          either true = inl refl
          either false = inr refl

      none : (f : List ℕ → ℕ) → f [] ≡ 0 → (j : ℕ) (u : V) → j ≢ id → get_elem? views j ≡ some u → (u.live ≡ true) ⊎ (u.live ≡ false) → f (places_of u) ≡ 0
      none f empty j u apart e (inl live') = absurd (all_alone log views id v r at live all j u apart e live')
      none f empty j u apart e (inr gone) = ap f (gone_places u gone) ∙ empty

  -- a live seat knows which entries are its own calls
  pub live_marked : (log : List E) (views : List V) (id : ℕ) (v : V) → All log views → get_elem? views id ≡ some v → v.live ≡ true → IsMarked mark v
  live_marked log views id v r at live =
      let s = r.each id v at live in
      let same = s.same_start in record {
        owned = λ p e le h. s.own_marked p e (omega arith) (prefix_get v.seen log p e s.seen_begins h);
        opening = (let was = s.seen_start in omega arith);
        past = λ p below. let one = total_at (λ u. times p (places_of u)) views id v at in let a = ap (times p) (live_places v live) in let sum = r.places p in let none = between_below start (length log) p (omega arith) in omega arith;
        within = s.own_seen;
        ascends = s.own_ascends;
      }

  -- a seat's mark is no other's
  pub others_unmarked : (log : List E) (views : List V) (id : ℕ) (v : V) → All log views → get_elem? views id ≡ some v → v.live ≡ true → (m : ℕ) → 0 < times m v.marks
      → (j : ℕ) (u : V) → j ≢ id → get_elem? views j ≡ some u → u.live ≡ true → times m u.marks ≡ 0
  others_unmarked log views id v r at live m has j u apart e alive =
      let two = total_two (λ u. times m (marks_of u)) views j id u v apart e at in
      let a = ap (times m) (live_marks v live) in let b = ap (times m) (live_marks u alive) in
      let sum = r.marks m in let most = between_most 0 64 m in omega arith

  pub marked_once : (log : List E) (views : List V) (id : ℕ) (v : V) → All log views → get_elem? views id ≡ some v → v.live ≡ true → (m : ℕ) → times m v.marks ≤ 1
  marked_once log views id v r at live m =
      let one = total_at (λ u. times m (marks_of u)) views id v at in let a = ap (times m) (live_marks v live) in let sum = r.marks m in let most = between_most 0 64 m in omega arith

  -- another seat, after an entry that carries no mark of its own
  other_sits : (log : List E) (e : E) (u : V) → One log u → times (mark e) u.marks ≡ 0 → One (log ++ e ∷ []) u
  other_sits log e u s none = record {
    some_mark = s.some_mark;
    same_subject = s.same_subject;
    same_start = s.same_start;
    seen_begins = prefix_more u.seen log (e ∷ []) s.seen_begins;
    seen_start = s.seen_start;
    told_begins = s.told_begins;
    own_seen = s.own_seen;
    own_ascends = s.own_ascends;
    own_marked = λ p x le h. ⊎_elim (λ (old : slice_get log p ≡ Some x). s.own_marked p x le old)
        (λ (new : (p ≡ length log) × (e ≡ x)).
        let l = prefix_length u.seen log s.seen_begins in let at : p ≡ length log = new.0 in let a = s.own_seen p (omega arith) in
        a ∙ (sym none ∙ ap (λ (y : E). times (mark y) u.marks) new.1))
        (get_snoc log e p x h);
  }

  -- the seat that entered the entry
  mine_sits : (log : List E) (e : E) (v : V) (given : ℕ) → One log v → v.seen ≡ log → times (mark e) v.marks ≡ 1 → One (log ++ e ∷ []) (committed given (log ++ e ∷ []) v)
  mine_sits log e v given s met once = let long = ap length met in let more = length-append log (e ∷ []) in let was = s.seen_start in record {
    some_mark = s.some_mark;
    same_subject = s.same_subject;
    same_start = s.same_start;
    seen_begins = prefix_self (log ++ e ∷ []);
    seen_start = omega arith;
    told_begins = prefix_trans v.told v.seen (log ++ e ∷ []) s.told_begins (prefix_more v.seen log (e ∷ []) s.seen_begins);
    own_seen = λ p le. let a = times-with_place p (length v.seen) v.own in let b = s.own_seen p (omega arith) in let c = times_other p (length v.seen) (λ same. omega arith) in omega arith;
    own_ascends = all_ascend_more v.own (length v.seen) s.own_ascends s.own_seen;
    own_marked = λ p x le h. let a = times-with_place p (length v.seen) v.own in ⊎_elim
        (λ (old : slice_get log p ≡ Some x). let below = get_below log p x old in let b = s.own_marked p x le old in let c = times_other p (length v.seen) (λ same. omega arith) in omega arith)
        (λ (new : (p ≡ length log) × (e ≡ x)).
        let at : p ≡ length v.seen = new.0 ∙ sym long in let b = s.own_seen p (omega arith) in let c : times p (length v.seen ∷ []) ≡ 1 = ap (λ (n : ℕ). times p (n ∷ [])) (sym at) ∙ times_here p in
        let d : times (mark x) v.marks ≡ 1 = ap (λ (y : E). times (mark y) v.marks) (sym new.1) ∙ once in omega arith)
        (get_snoc log e p x h);
  }

  pub grown_seated : (log : List E) (e : E) (views : List V) (id : ℕ) (v : V) (given : ℕ) → All log views → get_elem? views id ≡ some v → v.live ≡ true → v.seen ≡ log → 0 < times (mark e) v.marks
      → All (log ++ e ∷ []) (set views id (committed given (log ++ e ∷ []) v))
  grown_seated log e views id v given r at live met has =
      let w : V = committed given (log ++ e ∷ []) v in
      let long = ap length met in
      let more = length-append log (e ∷ []) in
      let once : times (mark e) v.marks ≡ 1 = (let most = marked_once log views id v r at live (mark e) in omega arith) in
      let was = live_places v live in
      let now = live_places w live in
      let sum = r.calls in
      record {
        marks = λ m. let s = total_set (λ u. times m (marks_of u)) views id v w at in let b = r.marks m in omega arith;
        shares = let s = total_set (λ u. length (marks_of u)) views id v w at in let b = r.shares in omega arith;
        places = λ p. let s = total_set (λ u. times p (places_of u)) views id v w at in let b = r.places p in
            let k = ap (times p) was in let k' = ap (times p) now in let c = times-with_place p (length v.seen) v.own in
            let d : times p (length v.seen ∷ []) ≡ times p (length log ∷ []) = ap (λ (n : ℕ). times p (n ∷ [])) long in
            let f = between_more start (length log) p (omega arith) in
            let g : once_between start (length (log ++ e ∷ [])) p ≡ once_between start (length log + 1) p = ap (λ (n : ℕ). once_between start n p) more in omega arith;
        calls = let s = total_set (λ u. length (places_of u)) views id v w at in let k = ap length was in let k' = ap length now in let c = length-with_place (length v.seen) v.own in omega arith;
        each = set_each (λ j u. u.live ≡ true → One (log ++ e ∷ []) u) views id w (λ _. mine_sits log e v given (r.each id v at live) met once)
            (λ j u apart there alive. other_sits log e u (r.each j u there alive) (others_unmarked log views id v r at live (mark e) has j u apart there alive));
        away = set_away views id w (is_live live) r.away;
      }

  -- so no entry past the opening does
  last_unmarked : (log : List E) (v : V) → One log v → LastMarkIsFree mark v → (place : ℕ) (e : E) → start ≤ place → slice_get log place ≡ Some e → times (mark e) (last_alone v.marks) ≡ 0
  last_unmarked log v s free place e le h =
      let own = s.own_marked place e le h in
      let parts = ap (times (mark e)) (sym (halves v.marks)) ∙ times-append (mark e) (but_last v.marks) (last_alone v.marks) in
      dite (ℕ_discrete (times place (concat v.own)) 0) (λ none. omega arith)
      (λ some_times. free place e (omega arith) (prefix_back v.seen log place e s.seen_begins (below place some_times) h))
    where
      below : (place : ℕ) → times place (concat v.own) ≢ 0 → place < length v.seen
      below place has = dite (dec_le (length v.seen) place) (λ past. absurd (has (s.own_seen place past))) lt_of_not-le

  parent_sits : (log : List E) (v : V) → One log v → LastMarkIsFree mark v → 2 ≤ length v.marks → One log (parent v)
  parent_sits log v s free two =
      let one = length-last_alone v.marks (omega arith) in
      let parts = ap length (sym (halves v.marks)) ∙ length-append (but_last v.marks) (last_alone v.marks) in
      record {
        some_mark = omega arith;
        same_subject = s.same_subject;
        same_start = s.same_start;
        seen_begins = s.seen_begins;
        seen_start = s.seen_start;
        told_begins = s.told_begins;
        own_seen = s.own_seen;
        own_ascends = s.own_ascends;
        own_marked = λ p e le h.
            let own = s.own_marked p e le h in let none = last_unmarked log v s free p e le h in
            let sum = ap (times (mark e)) (sym (halves v.marks)) ∙ times-append (mark e) (but_last v.marks) (last_alone v.marks) in omega arith;
      }

  child_sits : (log : List E) (v : V) → One log v → LastMarkIsFree mark v → 2 ≤ length v.marks → One log (child v)
  child_sits log v s free two =
      let one = length-last_alone v.marks (omega arith) in
      record {
        some_mark = omega arith;
        same_subject = s.same_subject;
        same_start = s.same_start;
        seen_begins = s.seen_begins;
        seen_start = s.seen_start;
        told_begins = (v.seen, refl);
        own_seen = λ p le. refl;
        own_ascends = (tt, tt);
        own_marked = λ p e le h. sym (last_unmarked log v s free p e le h);
      }

  pub split_seated : (log : List E) (views : List V) (id : ℕ) (v : V) → All log views → get_elem? views id ≡ some v → v.live ≡ true → LastMarkIsFree mark v → 2 ≤ length v.marks
      → All log (set views id (parent v) ++ child v ∷ [])
  split_seated log views id v r at live free two =
      let p : V = parent v in
      let c : V = child v in
      let vs : List V = set views id p in
      let was = live_marks v live in
      let kept = live_marks p live in
      let given = live_marks c live in
      let were = live_places v live in
      let stay = live_places p live in
      let none = live_places c live in
      record {
        marks = λ m. let s = total_set (λ u. times m (marks_of u)) views id v p at in let t = total_snoc (λ u. times m (marks_of u)) vs c in
            let a = ap (times m) was in let b = ap (times m) kept in let d = ap (times m) given in
            let parts = ap (times m) (sym (halves v.marks)) ∙ times-append m (but_last v.marks) (last_alone v.marks) in let sum = r.marks m in omega arith;
        shares = let s = total_set (λ u. length (marks_of u)) views id v p at in let t = total_snoc (λ u. length (marks_of u)) vs c in
            let a = ap length was in let b = ap length kept in let d = ap length given in
            let parts = ap length (sym (halves v.marks)) ∙ length-append (but_last v.marks) (last_alone v.marks) in let sum = r.shares in omega arith;
        places = λ q. let s = total_set (λ u. times q (places_of u)) views id v p at in let t = total_snoc (λ u. times q (places_of u)) vs c in
            let a = ap (times q) were in let b = ap (times q) stay in let d = ap (times q) none in let sum = r.places q in omega arith;
        calls = let s = total_set (λ u. length (places_of u)) views id v p at in let t = total_snoc (λ u. length (places_of u)) vs c in
            let a = ap length were in let b = ap length stay in let d = ap length none in let sum = r.calls in omega arith;
        each = snoc_each (λ j u. u.live ≡ true → One log u) vs c
            (set_each (λ j u. u.live ≡ true → One log u) views id p (λ _. parent_sits log v (r.each id v at live) free two) (λ j u _ e. r.each j u e))
            (λ j _. child_sits log v (r.each id v at live) free two);
        away = snoc_each (λ j u. Away u) vs c (set_away views id p (is_live live) r.away) (λ j. is_live live);
      }

  both_sit : (log : List E) (v w : V) → One log v → One log w → One log (both v w)
  both_sit log v w s t =
      let long = longer_than v.seen w.seen in
      record {
        some_mark = let sum = length-append v.marks w.marks in let some_one = s.some_mark in omega arith;
        same_subject = s.same_subject;
        same_start = s.same_start;
        seen_begins = longer_begins v.seen w.seen log s.seen_begins t.seen_begins;
        seen_start = let was = s.seen_start in let more = long.0 in omega arith;
        told_begins = shorter_begins v.seen w.seen log s.seen_begins t.seen_begins;
        own_seen = λ p le. let a = s.own_seen p (omega (arith, long.0)) in let b = t.own_seen p (omega (arith, long.1)) in
            let sum = ap (times p) (concat-append v.own w.own) ∙ times-append p (concat v.own) (concat w.own) in omega arith;
        own_ascends = all_ascend-append v.own w.own s.own_ascends t.own_ascends;
        own_marked = λ p e le h. let a = s.own_marked p e le h in let b = t.own_marked p e le h in
            let sum = ap (times p) (concat-append v.own w.own) ∙ times-append p (concat v.own) (concat w.own) in let all = times-append (mark e) v.marks w.marks in omega arith;
      }

  pub joined_seated : (log : List E) (views : List V) (id other : ℕ) (v w : V) → All log views → get_elem? views id ≡ some v → get_elem? views other ≡ some w → get_elem? (set views id (both v w)) other ≡ some w
      → v.live ≡ true → w.live ≡ true → All log (set (set views id (both v w)) other joined_away)
  joined_seated log views id other v w r at there still live live' =
      let b : V = both v w in
      let vs : List V = set views id b in
      let mine = live_marks v live in
      let theirs = live_marks w live' in
      let all = live_marks b live in
      let own = live_places v live in
      let other_own = live_places w live' in
      let all_own = live_places b live in
      record {
        marks = λ m. let s = total_set (λ u. times m (marks_of u)) views id v b at in let t = total_set (λ u. times m (marks_of u)) vs other w joined_away still in
            let x = ap (times m) mine in let y = ap (times m) theirs in let z = ap (times m) all in let sum = times-append m v.marks w.marks in let before = r.marks m in omega arith;
        shares = let s = total_set (λ u. length (marks_of u)) views id v b at in let t = total_set (λ u. length (marks_of u)) vs other w joined_away still in
            let x = ap length mine in let y = ap length theirs in let z = ap length all in let sum = length-append v.marks w.marks in let before = r.shares in omega arith;
        places = λ p. let s = total_set (λ u. times p (places_of u)) views id v b at in let t = total_set (λ u. times p (places_of u)) vs other w joined_away still in
            let x = ap (times p) own in let y = ap (times p) other_own in let z = ap (times p) all_own in
            let sum = ap (times p) (concat-append v.own w.own) ∙ times-append p (concat v.own) (concat w.own) in let before = r.places p in omega arith;
        calls = let s = total_set (λ u. length (places_of u)) views id v b at in let t = total_set (λ u. length (places_of u)) vs other w joined_away still in
            let x = ap length own in let y = ap length other_own in let z = ap length all_own in
            let sum = ap length (concat-append v.own w.own) ∙ length-append (concat v.own) (concat w.own) in let before = r.calls in omega arith;
        each = set_each (λ j u. u.live ≡ true → One log u) vs other joined_away (λ never. absurd (true≢false (sym never)))
            (λ j u _ e. set_each (λ i y. y.live ≡ true → One log y) views id b (λ _. both_sit log v w (r.each id v at live) (r.each other w there live')) (λ i y _ f. r.each i y f) j u e);
        away = set_away vs other joined_away (λ _ _. record { no_marks = refl; no_calls = refl; no_subject = refl }) (set_away views id b (is_live live) r.away);
      }
