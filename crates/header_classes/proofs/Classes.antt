-- Cells as classes: how often a header is in them, and which entry is the best for it.
use Rattle.std.proofs.Common.{◌≡◌, ◌∙◌, ◌+◌, ◌<◌, ◌≤◌, ◌++◌, ◌&&◌, ◌↔◌, ℕ, Bool, true, false, not, All, IsTrue, List, [], ◌∷◌, length, map, get_or, take, slice_get, Option, Some, None, cond, nat_eq, inl, inr, refl, sym, ap, subst, arith}
use Rattle.std.proofs.lemmas.Bool.{both_ways, cases_lt}
use Rattle.std.proofs.lemmas.List.Elements.{All-append, All-get_or, All-map}
use Rattle.std.proofs.lemmas.List.Sums.{get_or-le-sum_by, sum_by-append, sum_by_more}
use Rattle.std.proofs.lemmas.Option.{get_or_from_slice_get, slice_get-get_or, slice_get_within}
use Rattle.std.specs.declared.cmp.Reverse.{Reverse}
use Rattle.of10_match.specs.Field.{takes_by}
use Rattle.of10_match.specs.Match.{Takes, takes}
use Rattle.of10_match.specs.declared.header.Header.{Header}
use Rattle.of10_match.specs.declared.matches.Match.{Match}
use Rattle.flow_table.specs.Best.{IsBest, TakesAt, best_place}
use Rattle.flow_table.specs.Entry.{rank, takes_packet}
use Rattle.flow_table.specs.declared.entry.Entry.{Entry}
use Rattle.header_classes.specs.declared.interval.Interval.{Interval}
use Rattle.header_classes.specs.Cell.{cells_of, in_cell, times}
use Rattle.header_classes.specs.Order.{IsOrder, IsRanked, IsUnbeaten}

-- ---- how often a header is in cells

taken_test : (t b : Bool) (n : ℕ) → cond t n 0 + cond (b && t) 1 0 ≡ cond t (n + cond b 1 0) 0
taken_test true true n = refl
taken_test true false n = refl
taken_test false true n = refl
taken_test false false n = refl

rest_test : (t b : Bool) (n : ℕ) → cond t 0 n + cond (b && not t) 1 0 ≡ cond t 0 (n + cond b 1 0)
rest_test true true n = refl
rest_test true false n = refl
rest_test false true n = refl
rest_test false false n = refl

-- one cell more
times_more : (cells : List (List Interval)) (i : ℕ) (cell : List Interval) (h : Header) → i < length cells → cell ≡ get_or cells i cell
    → times (take i cells) h + cond (in_cell cell h) 1 0 ≡ times (take (i + 1) cells) h
times_more cells i cell h within is =
    ap (λ (c : List Interval). times (take i cells) h + cond (in_cell c h) 1 0) is ∙ sym (sum_by_more (λ c. cond (in_cell c h) 1 0) cells i cell within)

-- what a match takes of one cell more
pub taken_more : (cells : List (List Interval)) (i : ℕ) (cell : List Interval) (h : Header) (t b : Bool) (before : ℕ) → i < length cells → cell ≡ get_or cells i cell
    → before ≡ cond t (times (take i cells) h) 0 → b ≡ (in_cell cell h && t) → before + cond b 1 0 ≡ cond t (times (take (i + 1) cells) h) 0
taken_more cells i cell h t b before within is so_far taken =
    ap (λ (n : ℕ). n + cond b 1 0) so_far ∙ ap (λ (c : Bool). cond t (times (take i cells) h) 0 + cond c 1 0) taken
    ∙ taken_test t (in_cell cell h) (times (take i cells) h) ∙ ap (λ (n : ℕ). cond t n 0) (times_more cells i cell h within is)

-- what it does not take
pub rest_more : (cells : List (List Interval)) (i : ℕ) (cell : List Interval) (h : Header) (t : Bool) (before : ℕ) → i < length cells → cell ≡ get_or cells i cell
    → before ≡ cond t 0 (times (take i cells) h) → before + cond (in_cell cell h && not t) 1 0 ≡ cond t 0 (times (take (i + 1) cells) h)
rest_more cells i cell h t before within is so_far =
    ap (λ (n : ℕ). n + cond (in_cell cell h && not t) 1 0) so_far
    ∙ rest_test t (in_cell cell h) (times (take i cells) h) ∙ ap (λ (n : ℕ). cond t 0 n) (times_more cells i cell h within is)

-- a match takes nothing on a port that it does not take
pub other_port : (m : Match) (port : ℕ) (h : Header) → takes_by nat_eq m.in_port port ≡ false → takes m port h ≡ false
unfolding takes
other_port m port h other = rw other refl

-- what is taken and the rest are all
pub taken_and_rest : (t : Bool) (n : ℕ) → cond t n 0 + cond t 0 n ≡ n
taken_and_rest true n = omega arith
taken_and_rest false n = omega arith

-- a header of what was taken is one of the cells that the match takes, and a header of the rest is one that it does not
pub taken_some : (t : Bool) (n m : ℕ) → m ≡ cond t n 0 → 0 < m → (t ≡ true) × (0 < n)
taken_some true n m is some = (refl, omega (arith, is, some))
taken_some false n m is some = absurd (omega (arith, is, some))

pub rest_some : (t : Bool) (n m : ℕ) → m ≡ cond t 0 n → 0 < m → (t ≡ false) × (0 < n)
rest_some true n m is some = absurd (omega (arith, is, some))
rest_some false n m is some = (refl, omega (arith, is, some))

-- the cells of what was added
pub cells_of-added : (classes : List (List Interval × Option ℕ)) (cells : List (List Interval)) (best : Option ℕ) → cells_of (classes ++ map (λ cell. (cell, best)) cells) ≡ cells_of classes ++ cells
cells_of-added [] [] best = refl
cells_of-added [] (cell ∷ cells) best = ap (λ (cs : List (List Interval)). cell ∷ cs) (cells_of-added [] cells best)
cells_of-added (class ∷ classes) cells best = ap (λ (cs : List (List Interval)). class.0 ∷ cs) (cells_of-added classes cells best)

pub times-added : (classes : List (List Interval × Option ℕ)) (cells : List (List Interval)) (best : Option ℕ) (h : Header)
    → times (cells_of (classes ++ map (λ cell. (cell, best)) cells)) h ≡ times (cells_of classes) h + times cells h
times-added classes cells best h = ap (λ (cs : List (List Interval)). times cs h) (cells_of-added classes cells best) ∙ sum_by-append (λ cell. cond (in_cell cell h) 1 0) (cells_of classes) cells

-- a header of one of the cells is in some
pub some_times : (cells : List (List Interval)) (k : ℕ) (d : List Interval) (h : Header) → k < length cells → in_cell (get_or cells k d) h ≡ true → 0 < times cells h
some_times cells k d h within inside =
    let least = get_or-le-sum_by (λ cell. cond (in_cell cell h) 1 0) cells k d within in
    omega (arith, rw inside at least)

-- ---- the best entry

-- a class has the place of the best entry of each of its headers
abbrev pub HasBest : List Entry → ℕ → List Interval × Option ℕ → Type 0
HasBest entries port class = (h : Header) → IsTrue (in_cell class.0 h) → best_place entries port h ≡ class.1

-- cells that are added with the best entry of all their headers
pub best_added : (entries : List Entry) (port : ℕ) (classes : List (List Interval × Option ℕ)) (cells : List (List Interval)) (best : Option ℕ) → All (HasBest entries port) classes
    → ((h : Header) → 0 < times cells h → best_place entries port h ≡ best) → All (HasBest entries port) (classes ++ map (λ cell. (cell, best)) cells)
best_added entries port classes cells best all is =
    All-append (HasBest entries port) classes (map (λ cell. (cell, best)) cells) all
    (All-map (HasBest entries port) (λ cell. (cell, best)) cells (λ k d within h inside. is h (some_times cells k d h within inside)))

-- none of the first n entries in the order takes the packet
abbrev pub Misses : List Entry → ℕ → Header → List (Reverse ℕ × ℕ) → ℕ → Type 0
Misses entries port h order n = (k : ℕ) (d : Reverse ℕ × ℕ) (e : Entry) → k < n → k < length order → slice_get entries (get_or order k d).1 ≡ Some e → takes_packet port h e ≡ false

-- one entry more that does not take it
pub misses_more : (entries : List Entry) (port : ℕ) (h : Header) (order : List (Reverse ℕ × ℕ)) (n : ℕ) (e : Entry) → ((d : Reverse ℕ × ℕ) → slice_get entries (get_or order n d).1 ≡ Some e)
    → takes_packet port h e ≡ false → Misses entries port h order n → Misses entries port h order (n + 1)
misses_more entries port h order n e here misses before = λ k d other below within there. elim (cases_lt k n) [
  | inl low ↦ before k d other low within there
  | inr high ↦
      let at : n ≡ k = omega arith in
      let same : Some e ≡ Some other = sym (here d) ∙ ap (λ (j : ℕ). slice_get entries (get_or order j d).1) at ∙ there in
      let one : e ≡ other = cc in
      subst (λ (x : Entry). takes_packet port h x ≡ false) one misses
]

-- each place in the order is a place of the table
pub place_within : (entries : List Entry) (order : List (Reverse ℕ × ℕ)) (n : ℕ) (d : Reverse ℕ × ℕ) → IsOrder entries order → n < length order → (get_or order n d).1 < length entries
place_within entries order n d is within =
    let ranked = All-get_or (IsRanked entries) order n d within is.ranked in
    slice_get_within entries (get_or order n d).1 ranked.entry ranked.here

module _ (entries : List Entry) (order : List (Reverse ℕ × ℕ)) (port : ℕ) (h : Header) (is : IsOrder entries order)
    (meaning : (m : Match) (p : ℕ) (g : Header) → IsTrue (takes m p g) ↔ Takes m p g) where
  -- where an entry stands in the order, with its place and its rank
  listed_at : (place : ℕ) (e : Entry) → slice_get entries place ≡ Some e → (d : Reverse ℕ × ℕ)
      → (k : ℕ) × (k < length order) × ((get_or order k d).1 ≡ place) × (rank e ≡ (get_or order k d).0.0)
  listed_at place e here d =
      let listed = is.every place (slice_get_within entries place e here) in
      let s = listed.0 in
      let k = listed.1.0 in
      let within : k < length order = listed.1.1 in
      let found : get_or order k d ≡ (s, place) = get_or_from_slice_get order k (get_or order k (s, place)) d (slice_get-get_or order k (s, place) within) ∙ listed.1.2 in
      let at : (get_or order k d).1 ≡ place = ap (λ (r : Reverse ℕ × ℕ). r.1) found in
      let ranked = All-get_or (IsRanked entries) order k d within is.ranked in
      let same : Some ranked.entry ≡ Some e = sym ranked.here ∙ ap (slice_get entries) at ∙ here in
      let one : ranked.entry ≡ e = cc in
      (k, within, at, sym (ap rank one) ∙ ranked.ranks)

  -- an entry that takes the packet is none that the packet misses
  takes_true : (place : ℕ) (e : Entry) → TakesAt entries port h place e → takes_packet port h e ≡ true
  takes_true place e takes_it = (meaning e.matches port h).1 takes_it.takes

  -- one that stands no later in the order is not beaten
  unbeaten_upto : (n k : ℕ) (d : Reverse ℕ × ℕ) → n ≤ k → k < length order → IsUnbeaten (get_or order n d) (get_or order k d)
  unbeaten_upto n k d upto within = elim (cases_lt n k) [
    | inl less ↦ is.unbeaten n k d less within
    | inr most ↦
        let at : n ≡ k = omega arith in
        subst (λ (j : ℕ). IsUnbeaten (get_or order n d) (get_or order j d)) at record { rank = omega arith; place = λ equal. omega arith }
  ]

  -- the first entry in the order that takes the packet is the best one
  pub first_best : (n : ℕ) (e : Entry) (d : Reverse ℕ × ℕ)
      → ((place : ℕ) (entry : Entry) → IsBest entries port h place entry → best_place entries port h ≡ Some place)
      → n < length order → Misses entries port h order n → slice_get entries (get_or order n d).1 ≡ Some e → takes_packet port h e ≡ true
      → best_place entries port h ≡ Some (get_or order n d).1
  first_best n e d only within misses here passes =
      let mine = All-get_or (IsRanked entries) order n d within is.ranked in
      let same : Some mine.entry ≡ Some e = sym mine.here ∙ here in
      let one : mine.entry ≡ e = cc in
      let mine_rank : rank e ≡ (get_or order n d).0.0 = sym (ap rank one) ∙ mine.ranks in
      only (get_or order n d).1 e record {
        takes = record { here = here; takes = (meaning e.matches port h).0 passes };
        unbeaten = λ place other takes_it beats.
            let at = listed_at place other takes_it.here d in
            let k = at.0 in
            let its_place : (get_or order k d).1 ≡ place = at.2 in
            let its_rank : rank other ≡ (get_or order k d).0.0 = at.3 in
            elim (cases_lt k n) [
              | inl earlier ↦ both_ways (takes_packet port h other) (misses k d other earlier at.1 (rw its_place takes_it.here)) (takes_true place other takes_it)
              | inr later ↦
                  let first = unbeaten_upto n k d later at.1 in
                  elim beats [
                    | inl greater ↦ let most = first.rank in absurd (omega (arith, greater, its_rank, mine_rank, most))
                    | inr before ↦
                        let upto = first.place (omega (arith, before.0, its_rank, mine_rank)) in
                        absurd (omega (arith, before.1, upto, its_place))
                  ]
            ];
      }

  -- where no entry in the order takes the packet, there is no best one
  pub none_best : ((place : ℕ) → best_place entries port h ≡ Some place → (entry : Entry) × IsBest entries port h place entry)
      → Misses entries port h order (length order) → best_place entries port h ≡ None
  none_best best misses = by_place (best_place entries port h) refl where
    by_place : (o : Option ℕ) → best_place entries port h ≡ o → best_place entries port h ≡ None
    by_place None found = found
    by_place (Some place) found =
        let entry = best place found in
        let takes_it = entry.1.takes in
        let d : Reverse ℕ × ℕ = ((is.every place (slice_get_within entries place entry.0 takes_it.here)).0, place) in
        let at = listed_at place entry.0 takes_it.here d in
        absurd (both_ways (takes_packet port h entry.0) (misses at.0 d entry.0 at.1 at.1 (rw at.2 takes_it.here)) (takes_true place entry.0 takes_it))
