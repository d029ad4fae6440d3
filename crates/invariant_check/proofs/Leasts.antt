-- The least header of a cell with a forbidden walk, so far.
use Rattle.std.proofs.Common.{◌≡◌, ◌≢◌, ◌∙◌, ◌+◌, ◌≤◌, ℕ, Bool, true, false, List, cond, length, remove, slice_get, Option, Some, None, IfSome, inl, inr, refl, sym, arith}
use Rattle.std.proofs.lemmas.Bool.{cases_Bool}
use Rattle.std.proofs.lemmas.List.Edits.{length-remove}
use Rattle.std.proofs.lemmas.List.MinMax.{ranks_by}
use Rattle.std.proofs.lemmas.List.Sums.{sum_by-remove}
use Rattle.std.proofs.lemmas.Option.{get_or_from_slice_get, slice_get_within}
use Rattle.std.specs.Cmp.{IsStrictWeakOrder, IsTotalOrder}
use Rattle.std.specs.Option.{option_map_or}
use Rattle.std.specs.Ordering.{is_lt}
use Rattle.std.specs.declared.cmp.Ordering.{Ordering}
use Rattle.std.specs.declared.cmp.Ordering.TheVariants.{Equal, Greater, Less}
use Rattle.of10_match.specs.Header.{header_cmp}
use Rattle.of10_match.specs.declared.header.Header.{Header}
use Rattle.topology.specs.declared.invariant.Invariant.{Invariant}
use Rattle.event_world.specs.declared.net_state.NetState.{NetState}
use Rattle.header_classes.specs.Cell.{in_cell, times}
use Rattle.header_classes.specs.Interval.{within}
use Rattle.header_classes.specs.Size.{size, sizes}
use Rattle.header_classes.specs.declared.interval.Interval.{Interval}
use Rattle.invariant_check.specs.Verdict.{IsFirstWalk, IsFree}
use Rattle.invariant_check.specs.declared.least.Witness.{Witness}

-- ---- cells

-- a cell has no header that another one lacks
pub inner_le : (outer inner : List Interval) (h : Header) → (in_cell inner h ≡ true → in_cell outer h ≡ true) → cond {A = ℕ} (in_cell inner h) 1 0 ≤ cond (in_cell outer h) 1 0
inner_le outer inner h part = elim (cases_Bool (in_cell inner h)) [
  | inl inside ↦ rw (inside, part inside) (omega arith)
  | inr beside ↦ rw beside (omega arith)
]

-- a cell is taken off a list
pub times_taken : (left rest : List (List Interval)) (at : ℕ) (part : List Interval) → slice_get left at ≡ Some part → rest ≡ remove left at
    → (h : Header) → times rest h + cond (in_cell part h) 1 0 ≡ times left h
times_taken left rest at part here is h =
    let all = sum_by-remove (λ (c : List Interval). cond {A = ℕ} (in_cell c h) 1 0) left at part (slice_get_within left at part here) in
    let first = get_or_from_slice_get left at part part here in
    let whole = rw first at all in
    rw is whole

pub less_taken : (left rest : List (List Interval)) (at : ℕ) (part : List Interval) → slice_get left at ≡ Some part → rest ≡ remove left at
    → (sizes rest + size part ≡ sizes left) × (length rest + 1 ≡ length left)
less_taken left rest at part here is =
    let fits = slice_get_within left at part here in
    let all = sum_by-remove size left at part fits in
    let first = get_or_from_slice_get left at part part here in
    let whole = rw first at all in
    (rw is whole, rw is (length-remove left at fits))

-- ---- the order of headers

-- whether a header is less than that of a witness, or there is none
abbrev pub is_below : Option Witness → Header → Bool
is_below best h = option_map_or (λ witness. is_lt (header_cmp h witness.header)) best true

not_lt : (o : Ordering) → o ≢ Less → is_lt o ≡ false
not_lt Less other = absurd (other refl)
not_lt Equal other = refl
not_lt Greater other = refl

-- what is not less than a header that is not below is not below
above_is_not_below : IsTotalOrder header_cmp → (best : Option Witness) (least h : Header) → is_below best least ≡ false → is_lt (header_cmp h least) ≡ false → is_below best h ≡ false
above_is_not_below total None least h beaten above = absurd cc
above_is_not_below total (Some witness) least h beaten above =
    let order : IsStrictWeakOrder (λ (x y : Header). is_lt (header_cmp x y)) = ranks_by total (λ (x : Header). x) in
    order.chain h least witness.header above beaten

-- what is less than a header that is not above one that is below is below
less_is_below : IsTotalOrder header_cmp → (best : Option Witness) (least found h : Header) → is_below best least ≡ true → is_lt (header_cmp least found) ≡ false
    → is_lt (header_cmp h found) ≡ true → is_below best h ≡ true
less_is_below total None least found h below above less = refl
less_is_below total (Some witness) least found h below above less = elim (cases_Bool (is_lt (header_cmp h witness.header))) [
  | inl so ↦ so
  | inr other ↦
      let order : IsStrictWeakOrder (λ (x y : Header). is_lt (header_cmp x y)) = ranks_by total (λ (x : Header). x) in
      let back : is_lt (header_cmp witness.header least) ≡ false = order.one_way least witness.header below in
      let not_less : is_lt (header_cmp h found) ≡ false = order.chain h witness.header found other (order.chain witness.header least found back above) in
      absurd cc
]

-- ---- what holds after each turn

-- Each header of the cell is in one cell that is left, or has no forbidden walk, or is not less than the header of the witness.
pub record IsSoFar (net : NetState) (invariant : Invariant) (s p : ℕ) (cell : List Interval) (left : List (List Interval)) (best : Option Witness) : Type 0 where
  pub within : (h : Header) → times left h ≤ cond (in_cell cell h) 1 0
  pub done : (h : Header) → in_cell cell h ≡ true → times left h ≡ 0 → is_below best h ≡ true → IsFree net invariant (record { s = s; p = p; header = h })
  pub inside : IfSome best (λ witness. in_cell cell witness.header ≡ true)
  pub first : IfSome best (λ witness. IsFirstWalk net invariant (record { s = s; p = p; header = witness.header }) witness.walk.nodes witness.walk.finish)

-- what is in no cell that is left, and not in the one taken, was in none
was_none : (left rest : List (List Interval)) (part : List Interval) (h : Header) → in_cell part h ≡ false → times rest h + cond (in_cell part h) 1 0 ≡ times left h
    → times rest h ≡ 0 → times left h ≡ 0
was_none left rest part h beside taken none = let plain = rw beside at taken in omega (arith, plain, none)

-- what is in a cell that is left is in the cell
in_whole : (left rest : List (List Interval)) (cell part : List Interval) (h : Header) → in_cell part h ≡ true → times rest h + cond (in_cell part h) 1 0 ≡ times left h
    → times left h ≤ cond (in_cell cell h) 1 0 → in_cell cell h ≡ true
in_whole left rest cell part h inside taken within = elim (cases_Bool (in_cell cell h)) [
  | inl in_cell ↦ in_cell
  | inr beside ↦ let one = rw inside at taken in let none = rw beside at within in absurd (omega (arith, one, none))
]

-- a cell whose least header is not below the witness is left out
pub left_out : (net : NetState) (invariant : Invariant) (s p : ℕ) (cell : List Interval) (left rest : List (List Interval)) (best : Option Witness)
    → (part : List Interval) (least : Header) → IsTotalOrder header_cmp → IsSoFar net invariant s p cell left best
    → ((h : Header) → times rest h + cond (in_cell part h) 1 0 ≡ times left h)
    → ((h : Header) → in_cell part h ≡ true → header_cmp h least ≢ Less) → is_below best least ≡ false → IsSoFar net invariant s p cell rest best
left_out net invariant s p cell left rest best part least total so_far taken lower beaten = record {
  within = λ h. let was = so_far.within h in let one = taken h in omega (arith, one, was);
  done = λ h inside none below. elim (cases_Bool (in_cell part h)) [
    | inl in_part ↦ absurd (let above = above_is_not_below total best least h beaten (not_lt (header_cmp h least) (lower h in_part)) in cc)
    | inr beside ↦ so_far.done h inside (was_none left rest part h beside (taken h) none) below
  ];
  inside = so_far.inside;
  first = so_far.first;
}

-- a cell has a witness
pub found_one : (net : NetState) (invariant : Invariant) (s p : ℕ) (cell : List Interval) (left rest next : List (List Interval)) (best : Option Witness)
    → (part : List Interval) (least : Header) (witness : Witness) → IsTotalOrder header_cmp → IsSoFar net invariant s p cell left best
    → ((h : Header) → times rest h + cond (in_cell part h) 1 0 ≡ times left h)
    → in_cell part least ≡ true → is_below best least ≡ true
    → in_cell part witness.header ≡ true → ((h : Header) → in_cell part h ≡ true → header_cmp h witness.header ≢ Less)
    → IsFirstWalk net invariant (record { s = s; p = p; header = witness.header }) witness.walk.nodes witness.walk.finish
    → ((h : Header) → times rest h ≤ times next h) → ((h : Header) → times next h ≤ times rest h + cond (in_cell part h) 1 0)
    → IsSoFar net invariant s p cell next (Some witness)
found_one net invariant s p cell left rest next best part least witness total so_far taken has below inside lower first kept within = record {
  within = λ h. let was = so_far.within h in let one = taken h in let more = within h in omega (arith, one, was, more);
  done = λ h in_whole none less. elim (cases_Bool (in_cell part h)) [
    | inl in_part ↦ absurd (let above = not_lt (header_cmp h witness.header) (lower h in_part) in cc)
    | inr beside ↦
        let gone : times rest h ≡ 0 = (let less = kept h in omega (arith, less, none)) in
        let was_below = less_is_below total best least witness.header h below (not_lt (header_cmp least witness.header) (lower least has)) less in
        so_far.done h in_whole (was_none left rest part h beside (taken h) gone) was_below
  ];
  inside = in_whole left rest cell part witness.header inside (taken witness.header) (so_far.within witness.header);
  first = first;
}

-- a cell has no witness, and less of it is put back
pub none_there : (net : NetState) (invariant : Invariant) (s p : ℕ) (cell : List Interval) (left rest next : List (List Interval)) (best : Option Witness)
    → (part : List Interval) → IsSoFar net invariant s p cell left best
    → ((h : Header) → times rest h + cond (in_cell part h) 1 0 ≡ times left h)
    → ((h : Header) → in_cell part h ≡ true → times next h ≡ times rest h → IsFree net invariant (record { s = s; p = p; header = h }))
    → ((h : Header) → times rest h ≤ times next h) → ((h : Header) → times next h ≤ times rest h + cond (in_cell part h) 1 0)
    → IsSoFar net invariant s p cell next best
none_there net invariant s p cell left rest next best part so_far taken free kept within = record {
  within = λ h. let was = so_far.within h in let one = taken h in let more = within h in omega (arith, one, was, more);
  done = λ h in_whole none below.
      let gone : times rest h ≡ 0 = (let less = kept h in omega (arith, less, none)) in
      elim (cases_Bool (in_cell part h)) [
        | inl in_part ↦ free h in_part (none ∙ sym gone)
        | inr beside ↦ so_far.done h in_whole (was_none left rest part h beside (taken h) gone) below
      ];
  inside = so_far.inside;
  first = so_far.first;
}
