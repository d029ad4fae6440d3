-- A cell with one interval changed, and what it parts into.
use Rattle.std.proofs.Common.{◌≡◌, ◌∙◌, ◌+◌, ◌<◌, ◌≤◌, ◌&&◌, ℕ, suc, Bool, true, false, cond, List, [], ◌∷◌, ◌++◌, length, get_or, take, set, slice_get, Option, Some, None, nat_lt, inl, inr, refl, sym, ap, arith}
use Rattle.std.proofs.Math.Bool.{and_assoc}
use Rattle.std.proofs.lemmas.Bool.{and_from, and_parts, both_ways, cases_lt, false_from_ne_true, le-leb, le-ltb, lt-leb, lt-ltb}
use Rattle.std.proofs.lemmas.List.{take_all, take_more, take_more_set}
use Rattle.std.proofs.lemmas.List.Elements.{length_all_zip}
use Rattle.std.proofs.lemmas.Option.{get_or_from_slice_get, slice_get_within}
use Rattle.std.specs.List.{AllZip}
use Rattle.std.specs.Option.{option_map}
use Rattle.of10_match.specs.declared.header.Header.{Header}
use Rattle.header_classes.specs.declared.interval.Interval.{Interval}
use Rattle.header_classes.specs.Interval.{IsInner, within, within_some}
use Rattle.header_classes.specs.Cell.{each_within, fields, in_cell, in_some}
use Rattle.header_classes.proofs.Boxes.{each_within-more, each_within-take, inner_within, missed, narrowed, outside}
use Rattle.header_classes.proofs.Headers.{length-fields}

pub field_fits : (h : Header) (at : ℕ) → at < 11 → at < length (fields h)
field_fits h at fits = rw length-fields fits

-- a cell with an interval that takes of the old one the numbers that pass a test
pub narrow_cell : (p : ℕ → Bool) (cell : List Interval) (h : Header) (at : ℕ) (old new : Interval) → slice_get cell at ≡ Some old → at < 11
    → ((y : ℕ) → within new y ≡ (within old y && p y)) → in_cell (set cell at new) h ≡ (in_cell cell h && p (get_or (fields h) at 0))
narrow_cell p cell h at old new here fits test = narrowed p cell (fields h) at old new here (field_fits h at fits) test

-- the same where there may be no such interval
pub narrow_some : (p : ℕ → Bool) (cell : List Interval) (h : Header) (at : ℕ) (old : Interval) (new : Option Interval) → slice_get cell at ≡ Some old → at < 11
    → ((y : ℕ) → within_some new y ≡ (within old y && p y)) → in_some (option_map (λ i. set cell at i) new) h ≡ (in_cell cell h && p (get_or (fields h) at 0))
narrow_some p cell h at old None here fits test = sym (missed p cell (fields h) at old here (field_fits h at fits) (λ y. sym (test y)))
narrow_some p cell h at old (Some new) here fits test = narrow_cell p cell h at old new here fits test

-- ---- the part of a cell in another one

-- one field more
pub meet_more : (cell part other : List Interval) (h : Header) (at : ℕ) (i j both : Interval) → slice_get part at ≡ Some i → slice_get other at ≡ Some j → at < 11
    → in_cell part h ≡ (in_cell cell h && each_within (take at other) (fields h)) → ((y : ℕ) → within both y ≡ (within i y && within j y))
    → in_cell (set part at both) h ≡ (in_cell cell h && each_within (take (suc at) other) (fields h))
meet_more cell part other h at i j both here there fits is test =
    let x = get_or (fields h) at 0 in
    narrow_cell (within j) part h at i both here fits test
    ∙ ap (λ (b : Bool). b && within j x) is
    ∙ and_assoc (in_cell cell h) (each_within (take at other) (fields h)) (within j x)
    ∙ ap (λ (b : Bool). in_cell cell h && b) (sym (each_within-more other (fields h) at j there (field_fits h at fits)))

-- a field in which no number is in both
pub meet_none : (cell part other : List Interval) (h : Header) (at : ℕ) (i j : Interval) → slice_get part at ≡ Some i → slice_get other at ≡ Some j → at < 11
    → in_cell part h ≡ (in_cell cell h && each_within (take at other) (fields h)) → ((y : ℕ) → (within i y && within j y) ≡ false)
    → (in_cell cell h && in_cell other h) ≡ false
meet_none cell part other h at i j here there fits is none =
    let x = get_or (fields h) at 0 in
    false_from_ne_true (in_cell cell h && in_cell other h) (λ both.
    let parts = and_parts (in_cell cell h) (in_cell other h) both in
    let front = each_within-take other (fields h) at parts.1 in
    let more = each_within-take other (fields h) (suc at) parts.1 in
    let inside = and_parts (each_within (take at other) (fields h)) (within j x) (sym (each_within-more other (fields h) at j there (field_fits h at fits)) ∙ more) in
    let part_has = is ∙ and_from (in_cell cell h) (each_within (take at other) (fields h)) parts.0 front in
    both_ways (in_cell part h && within j x) (missed (within j) part (fields h) at i here (field_fits h at fits) none) (and_from (in_cell part h) (within j x) part_has inside.1))

-- ---- what is left around an inner cell

-- a number is below an interval, or above it, or within it
three : (p : Bool) (i : Interval) (x : ℕ) → i.low ≤ i.high
    → (cond (p && nat_lt x i.low) 1 0 + cond (p && nat_lt i.high x) 1 0) + cond (p && within i x) 1 0 ≡ cond p 1 0
three false i x ordered = refl
three true i x ordered = elim (cases_lt x i.low) [
  | inl less ↦ rw (lt-ltb x i.low less, le-ltb i.high x (omega arith), lt-leb i.low x less) refl
  | inr low ↦ elim (cases_lt i.high x) [
    | inl greater ↦ rw (le-ltb x i.low low, lt-ltb i.high x greater, le-leb i.low x low, lt-leb x i.high greater) refl
    | inr high ↦ rw (le-ltb x i.low low, le-ltb i.high x high, le-leb i.low x low, le-leb x i.high high) refl
  ]
]

-- a test that follows from another one
implied : (a b : Bool) → (a ≡ true → b ≡ true) → a ≡ (b && a)
implied true b follows = rw (follows refl) refl
implied false true follows = refl
implied false false follows = refl

-- a cell with an inner interval has the headers whose number there is within it
pub inner_cell : (cell : List Interval) (h : Header) (at : ℕ) (old new : Interval) → slice_get cell at ≡ Some old → at < 11 → IsInner old new
    → in_cell (set cell at new) h ≡ (in_cell cell h && within new (get_or (fields h) at 0))
inner_cell cell h at old new here fits nested = narrow_cell (within new) cell h at old new here fits (λ y. implied (within new y) (within old y) (inner_within old new y nested))

-- where its interval there is apart from that of another cell, none of its headers is in that one
pub apart_cell : (cell other : List Interval) (h : Header) (at : ℕ) (old new there : Interval) → slice_get cell at ≡ Some old → slice_get other at ≡ Some there → at < 11 → IsInner old new
    → ((x : ℕ) → within new x ≡ true → within there x ≡ false) → in_cell (set cell at new) h ≡ true → in_cell other h ≡ false
apart_cell cell other h at old new there here beside fits nested apart inside =
    let x = get_or (fields h) at 0 in
    let parts = and_parts (in_cell cell h) (within new x) (sym (inner_cell cell h at old new here fits nested) ∙ inside) in
    outside other (fields h) at there beside (field_fits h at fits) (apart x parts.1)

-- one field more: what lies below, what lies above, and what is left
pub around_more : (part : List Interval) (h : Header) (at : ℕ) (outer inner : Interval) (below above : Option Interval) → slice_get part at ≡ Some outer → at < 11 → IsInner outer inner
    → ((y : ℕ) → within_some below y ≡ (within outer y && nat_lt y inner.low)) → ((y : ℕ) → within_some above y ≡ (within outer y && nat_lt inner.high y))
    → (cond (in_some (option_map (λ i. set part at i) below) h) 1 0 + cond (in_some (option_map (λ i. set part at i) above) h) 1 0) + cond (in_cell (set part at inner) h) 1 0
    ≡ cond (in_cell part h) 1 0
around_more part h at outer inner below above here fits within_outer low high =
    let x = get_or (fields h) at 0 in
    rw (
      narrow_some (λ y. nat_lt y inner.low) part h at outer below here fits low,
      narrow_some (λ y. nat_lt inner.high y) part h at outer above here fits high,
      inner_cell part h at outer inner here fits within_outer,
    ) (three (in_cell part h) inner x within_outer.ordered)

-- the part and the inner cell have the same intervals of one field more
pub same_more : (part inner : List Interval) (at : ℕ) (outer new : Interval) → slice_get part at ≡ Some outer → slice_get inner at ≡ Some new → take at part ≡ take at inner
    → take (at + 1) (set part at new) ≡ take (at + 1) inner
same_more part inner at outer new here there same =
    take_more_set part at new (slice_get_within part at outer here)
    ∙ ap (λ (is : List Interval). is ++ new ∷ []) same
    ∙ ap (λ (i : Interval). take at inner ++ i ∷ []) (sym (get_or_from_slice_get inner at new new there))
    ∙ sym (take_more inner at new (slice_get_within inner at new there))

-- after all fields the part is the inner cell
pub same_all : (part inner : List Interval) → length inner ≡ 11 → AllZip IsInner part inner → take 11 part ≡ take 11 inner → part ≡ inner
same_all part inner long all same =
    let lengths = length_all_zip IsInner part inner all in
    sym (take_all 11 part (omega arith)) ∙ same ∙ take_all 11 inner (omega arith)
