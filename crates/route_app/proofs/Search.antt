-- A search goes on from the switches that its last round found.
use Rattle.std.proofs.Common.{◌≡◌, ◌≢◌, ◌∙◌, ℕ, ◌+◌, ◌-◌, ◌<◌, ◌≤◌, ◌++◌, Bool, List, [], ◌∷◌, Option, Some, None, All, Contains, drop, get_or, length, min, replicate, set, true, slice_get, take, ap, arith, inl, inr, refl, sym, subst, zero, suc}
use Rattle.std.proofs.lemmas.List.{drop_more, get_or-drop, get_or-set_other, get_or-set_same, get_or-take, get_or_default, length-drop, length-set, length-take, length-take-le, take-append-le}
use Rattle.std.proofs.lemmas.List.Sums.{fold-append}
use Rattle.std.proofs.lemmas.List.Elements.{All-set}
use Rattle.std.proofs.lemmas.Bool.{cases_eq}
use Rattle.std.proofs.Math.Seq.{drop-append_seam, drop-length}
use Rattle.listed.specs.Lists.{all_at}
use Rattle.route_app.specs.Paths.{Exit, Path}
use Rattle.route_app.specs.Rounds.{HasRoom, after_round, at_home, found, newly_found, unknown, visited}
use Rattle.route_app.specs.Table.{IsMade, IsReach, IsRow, IsSquare, IsTable, ways}
use Rattle.route_app.specs.Ways.{AreOpen, AreWays, leading_to, open_at}
use Rattle.route_app.specs.declared.queue.Queue.{Queue}
use Rattle.route_app.specs.declared.reach.Reach.{Reach}
use Rattle.route_app.specs.declared.reach.Rows.{Rows}
use Rattle.route_app.specs.declared.reach.WayIn.{WayIn}
use Rattle.route_app.proofs.Fronts.{IsFront, first_front, found_append, next_front, unknown_first}
use Rattle.route_app.proofs.Levels.{IsKnownRow, done_row, end_row, first_here, first_known, first_other, length_first, round_known}
use Rattle.route_app.proofs.Members.{contains_none}
use Rattle.route_app.proofs.WaysIn.{Link, led_all, led_from, led_to, open_inside}

-- what a search has found before a round
pub record IsSearched (to start round : ℕ) (ways_in : List (List WayIn)) (down : List (Bool × Bool)) (row : List (Option Reach)) (queue : Queue) : Type 0 where
  pub room : HasRoom row queue
  pub front : IsFront round row (drop start (found queue))
  pub known : (exits : List Exit) → AreOpen exits ways_in down → IsKnownRow exits to round exits row

-- it begins with the switch itself
pub search_begins : (size to : ℕ) (ways_in : List (List WayIn)) (down : List (Bool × Bool)) (row : List (Option Reach)) (queue : Queue) → to < size → size ≤ length queue.places
    → row ≡ at_home size to → queue.len ≡ 1 → found queue ≡ to ∷ [] → IsSearched to 0 0 ways_in down row queue
search_begins size to ways_in down row queue within room row_is len is = record {
  room =
      let one = unknown_first size to within in
      let same : unknown row ≡ unknown (at_home size to) = ap unknown row_is in
      let long : length row ≡ size = ap length row_is ∙ length_first size to in
      (omega arith, omega arith);
  front = subst (λ (r : List (Option Reach)). IsFront 0 r (found queue)) (sym row_is) (subst (IsFront 0 (at_home size to)) (sym is) (first_front size to within));
  known = λ exits stand. subst (IsKnownRow exits to 0 exits) (sym row_is) (first_known exits to size within);
}

-- what was put to a queue
added : (places : List ℕ) (len : ℕ) (now newly : List ℕ) → len ≤ length places → now ≡ take len places ++ newly → drop len now ≡ newly
added places len now newly within is =
    let long : length (take len places) ≡ len = length-take-le len places within in
    ap (drop len) is ∙ ap (λ (n : ℕ). drop n (take len places ++ newly)) (sym long) ∙ drop-append_seam (take len places) newly

pub search_goes_on : (to start round links : ℕ) (ways_in : List (List WayIn)) (down : List (Bool × Bool)) (row new : List (Option Reach)) (queue now : Queue)
    → length ways_in ≡ length row → All (AreWays (length row) links) ways_in → IsSearched to start round ways_in down row queue
    → new ≡ after_round round (leading_to ways_in down (drop start (found queue))) row
    → found now ≡ found queue ++ newly_found round (leading_to ways_in down (drop start (found queue))) row → HasRoom new now
    → IsSearched to queue.len (round + 1) ways_in down new now
search_goes_on to start round links ways_in down row new queue now long all is row_is found_is room =
    let front = drop start (found queue) in
    let left = leading_to ways_in down front in
    let free = is.room.0 in
    let enough = is.room.1 in
    let rest : drop queue.len (found now) ≡ newly_found round left row = added queue.places queue.len (found now) (newly_found round left row) (omega arith) found_is in
    record {
      room = room;
      front = subst (λ (r : List (Option Reach)). IsFront (round + 1) r (drop queue.len (found now))) (sym row_is)
          (subst (IsFront (round + 1) (after_round round left row)) (sym rest) (next_front round left row (led_from (length row) links ways_in down front all) is.front.below));
      known = λ exits stand. subst (IsKnownRow exits to (round + 1) exits) (sym row_is)
          (round_known exits to round left row (open_inside (length row) links exits ways_in down long all stand) (is.known exits stand) is.front.below
          (λ e at there. led_all ways_in down front e (is.front.all e.2 (open_inside (length row) links exits ways_in down long all stand e at).1 there) ((stand e).0 at))
          (record {
            within = λ e at. (stand e).1 (led_to ways_in down front e at).1;
            there = λ e at. (is.front.only e.2 (led_to ways_in down front e at).0).1;
          }));
    }

-- it ends where the last round found nothing
pub search_ends : (to start round links : ℕ) (ways_in : List (List WayIn)) (down : List (Bool × Bool)) (row : List (Option Reach)) (queue : Queue) (exits : List Exit)
    → length ways_in ≡ length row → All (AreWays (length row) links) ways_in → IsSearched to start round ways_in down row queue → start ≡ queue.len → AreOpen exits ways_in down → IsRow exits to row
search_ends to start round links ways_in down row queue exits long all is end stand =
    let free = is.room.0 in
    let enough = is.room.1 in
    let count : length (found queue) ≡ queue.len = length-take-le queue.len queue.places (omega arith) in
    let rest : drop start (found queue) ≡ [] = ap (λ (n : ℕ). drop n (found queue)) (end ∙ sym count) ∙ drop-length (found queue) in
    done_row exits to round row (open_inside (length row) links exits ways_in down long all stand) (is.known exits stand) is.front.below
    (λ a within at. contains_none a (subst (λ (xs : List ℕ). Contains xs a) rest (is.front.all a within at)))

-- or after as many rounds as there are switches
pub search_is_over : (to start round links : ℕ) (ways_in : List (List WayIn)) (down : List (Bool × Bool)) (row : List (Option Reach)) (queue : Queue) (exits : List Exit)
    → length ways_in ≡ length row → All (AreWays (length row) links) ways_in → IsSearched to start round ways_in down row queue → length row ≤ round → AreOpen exits ways_in down → IsRow exits to row
search_is_over to start round links ways_in down row queue exits long all is enough stand =
    end_row exits to round row (open_inside (length row) links exits ways_in down long all stand) enough (is.known exits stand) is.front.below

-- the switches of the last round are among all
pub front_within : (to start round : ℕ) (ways_in : List (List WayIn)) (down : List (Bool × Bool)) (row : List (Option Reach)) (queue : Queue) → IsSearched to start round ways_in down row queue
    → All (λ s. s < length row) (drop start (found queue))
front_within to start round ways_in down row queue is k d within = (is.front.only (get_or (drop start (found queue)) k d) (k, within, get_or_default (drop start (found queue)) k _ d within)).0

-- ---- the switches of a round, one after the other

-- what stood in the queue before a round stands there still
pub place_kept : (at : ℕ) (old now : Queue) → at < old.len → old.len ≤ length old.places → take old.len (found now) ≡ found old → get_or now.places at 0 ≡ get_or (found old) at 0
place_kept at old now within enough before =
    let count : length (found old) ≡ old.len = length-take-le old.len old.places enough in
    let taken : length (take old.len (found now)) ≡ min old.len (length (found now)) = length-take old.len (found now) in
    let filled : length (found now) ≡ min now.len (length now.places) = length-take now.len now.places in
    let same : length (take old.len (found now)) ≡ length (found old) = ap length before in
    sym (
    ap (λ (xs : List ℕ). get_or xs at 0) (sym before)
    ∙ get_or-take old.len (found now) at 0 within
    ∙ get_or-take now.len now.places at 0 (omega arith)
    )

pub last_within : (size start at : ℕ) (old : List ℕ) → All (λ s. s < size) (drop start old) → start ≤ at → at < length old → get_or old at 0 < size
last_within size start at old all from within =
    let long : length (drop start old) ≡ length old - start = length-drop start old in
    let here : get_or (drop start old) (at - start) 0 < size = all (at - start) 0 (omega arith) in
    let same : start + (at - start) ≡ at = omega arith in
    subst (λ (s : ℕ). s < size) (get_or-drop start old (at - start) 0 ∙ ap (λ (k : ℕ). get_or old k 0) same) here

-- the switch whose turn it is
pub turn_of : (size start at s : ℕ) (old now : Queue) (places : List ℕ) → start ≤ at → at < old.len → old.len ≤ length old.places → take old.len (found now) ≡ found old
    → All (λ x. x < size) (drop start (found old)) → s ≡ get_or places at 0 → places ≡ now.places → (s < size) × (s ≡ get_or (found old) at 0)
turn_of size start at s old now places from within enough before all is there =
    let same : s ≡ get_or (found old) at 0 = is ∙ ap (λ (xs : List ℕ). get_or xs at 0) there ∙ place_kept at old now within enough before in
    let count : length (found old) ≡ old.len = length-take-le old.len old.places enough in
    (subst (λ (x : ℕ). x < size) (sym same) (last_within size start at (found old) all from (omega arith)), same)

pub round_more : (round at : ℕ) (ways_in : List (List WayIn)) (down : List (Bool × Bool)) (old : List ℕ) (row new whole : List (Option Reach)) → at < length old
    → new ≡ after_round round (open_at ways_in down (get_or old at 0)) row → after_round round (leading_to ways_in down (drop at old)) row ≡ whole
    → after_round round (leading_to ways_in down (drop (at + 1) old)) new ≡ whole
round_more round at ways_in down old row new whole within is all =
    let one = open_at ways_in down (get_or old at 0) in
    let more = leading_to ways_in down (drop (at + 1) old) in
    ap (after_round round more) is
    ∙ sym (fold-append (visited round) row one more)
    ∙ ap (λ (xs : List ℕ). after_round round (leading_to ways_in down xs) row) (sym (drop_more old at 0 within))
    ∙ all

pub queue_more : (round at : ℕ) (ways_in : List (List WayIn)) (down : List (Bool × Bool)) (old : List ℕ) (row new : List (Option Reach)) (before now whole : List ℕ) → at < length old
    → new ≡ after_round round (open_at ways_in down (get_or old at 0)) row → now ≡ before ++ newly_found round (open_at ways_in down (get_or old at 0)) row
    → before ++ newly_found round (leading_to ways_in down (drop at old)) row ≡ whole
    → now ++ newly_found round (leading_to ways_in down (drop (at + 1) old)) new ≡ whole
queue_more round at ways_in down old row new before now whole within is added_is all =
    found_append round (open_at ways_in down (get_or old at 0)) (leading_to ways_in down (drop (at + 1) old)) row new before now is added_is
    ∙ ap (λ (xs : List ℕ). before ++ newly_found round (leading_to ways_in down xs) row) (sym (drop_more old at 0 within))
    ∙ all

pub before_kept : (len : ℕ) (old now next newly : List ℕ) → length old ≡ len → take len now ≡ old → next ≡ now ++ newly → take len next ≡ old
before_kept len old now next newly long before is =
    let taken : length (take len now) ≡ min len (length now) = length-take len now in
    let same : length (take len now) ≡ length old = ap length before in
    ap (take len) is ∙ take-append-le len now newly (omega arith) ∙ before

-- ---- the table

-- a row of as many columns is put in
pub row_put : (size : ℕ) (links : List Link) (table : Rows) (to : ℕ) (row : List (Option Reach)) (queue : Queue) → IsMade size links table → length row ≡ size → length queue.places ≡ length table.queue.places
    → IsMade size links (record { rows = set table.rows to row; down = table.down; ways_in = table.ways_in; queue = queue })
row_put size links table to row queue is wide same = record {
  square = (length-set table.rows to row ∙ is.square.0, All-set (λ (r : List (Option Reach)). length r ≡ size) table.rows to row wide is.square.1);
  switches = is.switches;
  ways_in = is.ways_in;
  room = let room = is.room in omega arith;
}

-- the rows so far are right for some ways out, and the others for others
pub record AreHalfRight (old new : List Exit) (to : ℕ) (rows : List (List (Option Reach))) : Type 0 where
  pub done : (b : ℕ) → b < to → IsRow new b (get_or rows b [])
  pub left : (b : ℕ) → to ≤ b → b < length rows → IsRow old b (get_or rows b [])

-- one more row is right
pub row_done : (old new : List Exit) (to : ℕ) (rows : List (List (Option Reach))) → AreHalfRight old new to rows → IsRow new to (get_or rows to []) → AreHalfRight old new (to + 1) rows
row_done old new to rows half right = record {
  done = λ b less. elim (cases_eq b to) [ inl same ↦ subst (λ (k : ℕ). IsRow new k (get_or rows k [])) (sym same) right | inr apart ↦ half.done b (omega arith) ];
  left = λ b more within. half.left b (omega arith) within;
}

-- and it was put in
pub row_found : (old new : List Exit) (to : ℕ) (rows : List (List (Option Reach))) (row : List (Option Reach)) → to < length rows → AreHalfRight old new to rows → IsRow new to row → AreHalfRight old new (to + 1) (set rows to row)
row_found old new to rows row within half right = record {
  done = λ b less. elim (cases_eq b to) [
    | inl same ↦ subst (λ (k : ℕ). IsRow new k (get_or (set rows to row) k [])) (sym same) (subst (IsRow new to) (sym (get_or-set_same rows to row [] within)) right)
    | inr apart ↦ subst (IsRow new b) (sym (get_or-set_other rows to b row [] apart)) (half.done b (omega arith))
  ];
  left = λ b more in'. subst (IsRow old b) (sym (get_or-set_other rows to b row [] (λ same. omega arith))) (half.left b (omega arith) (subst (λ (n : ℕ). b < n) (length-set rows to row) in'));
}

-- a row is as wide as all
pub row_wide : (size : ℕ) (rows : List (List (Option Reach))) (to : ℕ) (row : List (Option Reach)) → IsSquare size rows → slice_get rows to ≡ Some row → length row ≡ size
row_wide size rows to row is at = all_at (λ (r : List (Option Reach)). length r ≡ size) rows to row is.1 at

-- ---- where no link can be used

none_up : (links : List Link) → ways links (replicate (length links) (true, true)) ≡ []
none_up [] = refl
none_up (link ∷ links) = none_up links

no_exit : (b a n : ℕ) → a ≢ b → Path [] n a b → ⊥
no_exit b a zero apart path = apart path
no_exit b a (suc n) apart (p, c, at, rest) = contains_none (a, p, c) at

home_right : (size b : ℕ) → b < size → IsRow [] b (at_home size b)
home_right size b within a in' =
    let less : a < size = subst (λ (k : ℕ). a < k) (length_first size b) in' in
    elim (cases_eq a b) [
      | inl same ↦ subst (λ (x : ℕ). IsReach [] b x (get_or (at_home size b) x None)) (sym same) (subst (IsReach [] b b) (sym (first_here size b within)) (record {
        path = refl;
        fewest = λ n path. omega arith;
        begins = λ n is. absurd (omega arith);
        least = λ n q is begins. absurd (omega arith);
      }))
      | inr apart ↦ subst (IsReach [] b a) (sym (first_other size b a less apart)) (λ n path. no_exit b a n apart path)
    ]

pub homes_right : (size : ℕ) (links : List Link) (rows : List (List (Option Reach))) (down : List (Bool × Bool)) → length rows ≡ size → ((b : ℕ) → b < size → get_or rows b [] ≡ at_home size b)
    → down ≡ replicate (length links) (true, true) → IsTable (ways links down) rows
homes_right size links rows down long homes is b within =
    subst (λ (exits : List Exit). IsRow exits b (get_or rows b [])) (sym (ap (ways links) is ∙ none_up links))
    (let less : b < size = omega arith in subst (IsRow [] b) (sym (homes b less)) (home_right size b less))
