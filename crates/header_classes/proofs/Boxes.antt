-- Boxes: lists of intervals, one field at a time.
use Rattle.std.proofs.Common.{◌≡◌, ◌∙◌, ◌<◌, ◌≤◌, ◌&&◌, ℕ, zero, suc, Bool, true, false, List, [], ◌∷◌, length, get_or, take, set, map, slice_get, nat_le, ◌≢◌, ◌^◌, Some, refl, sym, ap, subst, arith}
use Rattle.std.proofs.Math.Bool.{and_assoc}
use Rattle.std.proofs.lemmas.Bool.{and_from, and_left, and_right, and_parts, le-leb, leb-true}
use Rattle.std.proofs.lemmas.Cmp.{by_ranked, ranked}
use Rattle.std.specs.Cmp.Lexicographic.{slice_cmp}
use Rattle.std.specs.List.{AllZip}
use Rattle.std.specs.Ordering.{nat_cmp, ordering_then}
use Rattle.std.specs.declared.cmp.Ordering.{Ordering}
use Rattle.std.specs.declared.cmp.Ordering.TheVariants.{Equal, Greater, Less}
use Rattle.header_classes.specs.declared.interval.Interval.{Interval}
use Rattle.header_classes.specs.Interval.{IsInner, IsInterval, within}
use Rattle.header_classes.specs.Cell.{each_within}

-- ---- tests

-- what a number passes, it passes still where another is asked before
and-inner : (a b c : Bool) → ((a && b) && c) ≡ ((a && c) && b)
and-inner true true c = let e : c ≡ (c && true) = elim c as (λ (d : Bool). d ≡ (d && true)) [ true ↦ refl | false ↦ refl ] in e
and-inner true false c = elim c as (λ (d : Bool). false ≡ (d && false)) [ true ↦ refl | false ↦ refl ]
and-inner false b c = refl

-- ---- one field

-- where the interval of one field takes of its numbers those that pass a test, the box has of its lists those whose number there passes it
pub narrowed : (p : ℕ → Bool) (is : List Interval) (xs : List ℕ) (at : ℕ) (old new : Interval) → slice_get is at ≡ Some old → at < length xs
    → ((y : ℕ) → within new y ≡ (within old y && p y)) → each_within (set is at new) xs ≡ (each_within is xs && p (get_or xs at 0))
narrowed p [] xs at old new here fits test = absurd cc
narrowed p (i ∷ is) [] at old new here fits test = absurd (omega arith)
narrowed p (i ∷ is) (x ∷ xs) zero old new here fits test =
    let same : i ≡ old = cc in
    ap (λ (b : Bool). b && each_within is xs) (test x ∙ ap (λ (j : Interval). within j x && p x) (sym same)) ∙ and-inner (within i x) (p x) (each_within is xs)
narrowed p (i ∷ is) (x ∷ xs) (suc at) old new here fits test =
    ap (λ (b : Bool). within i x && b) (narrowed p is xs at old new here (omega arith) test) ∙ sym (and_assoc (within i x) (each_within is xs) (p (get_or xs at 0)))

-- where no number of the interval passes a test, the box has no list whose number there passes it
pub missed : (p : ℕ → Bool) (is : List Interval) (xs : List ℕ) (at : ℕ) (old : Interval) → slice_get is at ≡ Some old → at < length xs
    → ((y : ℕ) → (within old y && p y) ≡ false) → (each_within is xs && p (get_or xs at 0)) ≡ false
missed p [] xs at old here fits test = absurd cc
missed p (i ∷ is) [] at old here fits test = absurd (omega arith)
missed p (i ∷ is) (x ∷ xs) zero old here fits test =
    let same : i ≡ old = cc in
    let none : (within i x && p x) ≡ false = ap (λ (j : Interval). within j x && p x) same ∙ test x in
    sym (and-inner (within i x) (p x) (each_within is xs)) ∙ and_left (within i x && p x) (each_within is xs) none
missed p (i ∷ is) (x ∷ xs) (suc at) old here fits test =
    and_assoc (within i x) (each_within is xs) (p (get_or xs at 0)) ∙ and_right (within i x) (each_within is xs && p (get_or xs at 0)) (missed p is xs at old here (omega arith) test)

-- a box of one field more
pub each_within-more : (is : List Interval) (xs : List ℕ) (at : ℕ) (here : Interval) → slice_get is at ≡ Some here → at < length xs
    → each_within (take (suc at) is) xs ≡ (each_within (take at is) xs && within here (get_or xs at 0))
each_within-more [] xs at i here fits = absurd cc
each_within-more (j ∷ is) [] at i here fits = absurd (omega arith)
each_within-more (j ∷ is) (x ∷ xs) zero i here fits =
    let same : j ≡ i = cc in
    let e : (within j x && true) ≡ within j x = elim (within j x) as (λ (d : Bool). (d && true) ≡ d) [ true ↦ refl | false ↦ refl ] in e ∙ ap (λ (k : Interval). within k x) same
each_within-more (j ∷ is) (x ∷ xs) (suc at) i here fits =
    ap (λ (b : Bool). within j x && b) (each_within-more is xs at i here (omega arith)) ∙ sym (and_assoc (within j x) (each_within (take at is) xs) (within i (get_or xs at 0)))

-- a box has no list with a number outside its interval
pub outside : (is : List Interval) (xs : List ℕ) (at : ℕ) (here : Interval) → slice_get is at ≡ Some here → at < length xs → within here (get_or xs at 0) ≡ false → each_within is xs ≡ false
outside [] xs at i here fits out = absurd cc
outside (j ∷ is) [] at i here fits out = absurd (omega arith)
outside (j ∷ is) (x ∷ xs) zero i here fits out =
    let same : j ≡ i = cc in
    and_left (within j x) (each_within is xs) (ap (λ (k : Interval). within k x) same ∙ out)
outside (j ∷ is) (x ∷ xs) (suc at) i here fits out = and_right (within j x) (each_within is xs) (outside is xs at i here (omega arith) out)

-- each number of a list in a box is within its interval
pub inside_at : (is : List Interval) (xs : List ℕ) (at : ℕ) (here : Interval) → slice_get is at ≡ Some here → at < length xs → each_within is xs ≡ true → within here (get_or xs at 0) ≡ true
inside_at [] xs at i here fits inside = absurd cc
inside_at (j ∷ is) [] at i here fits inside = absurd (omega arith)
inside_at (j ∷ is) (x ∷ xs) zero i here fits inside =
    let same : j ≡ i = cc in
    ap (λ (k : Interval). within k x) (sym same) ∙ (and_parts (within j x) (each_within is xs) inside).0
inside_at (j ∷ is) (x ∷ xs) (suc at) i here fits inside = inside_at is xs at i here (omega arith) (and_parts (within j x) (each_within is xs) inside).1

-- a list in a box is in each box of fewer fields
pub each_within-take : (is : List Interval) (xs : List ℕ) (n : ℕ) → each_within is xs ≡ true → each_within (take n is) xs ≡ true
each_within-take [] xs zero inside = refl
each_within-take [] xs (suc n) inside = refl
each_within-take (i ∷ is) xs zero inside = refl
each_within-take (i ∷ is) [] (suc n) inside = refl
each_within-take (i ∷ is) (x ∷ xs) (suc n) inside =
    let parts = and_parts (within i x) (each_within is xs) inside in
    and_from (within i x) _ parts.0 (each_within-take is xs n parts.1)

-- ---- inner boxes

-- each interval with a number is inner to itself
pub inner_itself : (ws : List ℕ) (is : List Interval) → AllZip IsInterval ws is → AllZip IsInner is is
inner_itself ws [] all = tt
inner_itself [] (i ∷ is) all = absurd all
inner_itself (w ∷ ws) (i ∷ is) all = let valid = all.0 in (record { ordered = valid.ordered; low = omega arith; high = omega arith }, inner_itself ws is all.1)

-- what is inner to an inner box is inner to the outer one
pub inner_chain : (is js ks : List Interval) → AllZip IsInner is js → AllZip IsInner js ks → AllZip IsInner is ks
inner_chain [] [] [] one other = tt
inner_chain [] [] (k ∷ ks) one other = absurd other
inner_chain [] (j ∷ js) ks one other = absurd one
inner_chain (i ∷ is) [] ks one other = absurd one
inner_chain (i ∷ is) (j ∷ js) [] one other = absurd other
inner_chain (i ∷ is) (j ∷ js) (k ∷ ks) one other =
    let outer = one.0 in
    let inner = other.0 in
    (record { ordered = inner.ordered; low = omega (arith, outer.low, inner.low); high = omega (arith, outer.high, inner.high) }, inner_chain is js ks one.1 other.1)

-- what is within the inner interval is within the outer one
pub inner_within : (outer inner : Interval) (y : ℕ) → IsInner outer inner → within inner y ≡ true → within outer y ≡ true
inner_within outer inner y nested inside =
    let parts = and_parts (nat_le inner.low y) (nat_le y inner.high) inside in
    let low = leb-true inner.low y parts.0 in
    let high = leb-true y inner.high parts.1 in
    and_from (nat_le outer.low y) (nat_le y outer.high) (le-leb outer.low y (omega (arith, low, nested.low))) (le-leb y outer.high (omega (arith, high, nested.high)))

-- a list in the inner box is in the outer one
pub inner_part : (is js : List Interval) (xs : List ℕ) → AllZip IsInner is js → each_within js xs ≡ true → each_within is xs ≡ true
inner_part [] js xs all inside = refl
inner_part (i ∷ is) [] xs all inside = absurd all
inner_part (i ∷ is) (j ∷ js) [] all inside = refl
inner_part (i ∷ is) (j ∷ js) (x ∷ xs) all inside =
    let parts = and_parts (within j x) (each_within js xs) inside in
    and_from (within i x) (each_within is xs) (inner_within i j x all.0 parts.0) (inner_part is js xs all.1 parts.1)

-- the intervals of one field
pub inner_at : (is js : List Interval) (at : ℕ) (i j : Interval) → AllZip IsInner is js → slice_get is at ≡ Some i → slice_get js at ≡ Some j → IsInner i j
inner_at [] js at i j all here there = absurd cc
inner_at (k ∷ is) [] at i j all here there = absurd cc
inner_at (k ∷ is) (l ∷ js) zero i j all here there =
    let outer : k ≡ i = cc in
    let inner : l ≡ j = cc in
    subst (λ (x : Interval). IsInner x j) outer (subst (IsInner k) inner all.0)
inner_at (k ∷ is) (l ∷ js) (suc at) i j all here there = inner_at is js at i j all.1 here there

-- the inner interval becomes another one within it
pub inner_set : (is js : List Interval) (at : ℕ) (old new : Interval) → AllZip IsInner is js → slice_get js at ≡ Some old → IsInner old new → AllZip IsInner is (set js at new)
inner_set [] [] at old new all here within = all
inner_set [] (j ∷ js) at old new all here within = absurd all
inner_set (i ∷ is) [] at old new all here within = absurd all
inner_set (i ∷ is) (j ∷ js) zero old new all here within =
    let same : j ≡ old = cc in
    let outer : IsInner i old = subst (IsInner i) same all.0 in
    (record { ordered = within.ordered; low = omega (arith, outer.low, within.low); high = omega (arith, outer.high, within.high) }, all.1)
inner_set (i ∷ is) (j ∷ js) (suc at) old new all here within = (all.0, inner_set is js at old new all.1 here within)

-- the outer interval becomes the inner one
pub outer_set : (is js : List Interval) (at : ℕ) (new : Interval) → AllZip IsInner is js → slice_get js at ≡ Some new → AllZip IsInner (set is at new) js
outer_set [] js at new all here = all
outer_set (i ∷ is) [] at new all here = absurd all
outer_set (i ∷ is) (j ∷ js) zero new all here =
    let same : new ≡ j = cc in
    let inner = all.0 in
    let itself : IsInner j j = record { ordered = inner.ordered; low = omega arith; high = omega arith } in
    (subst (λ (x : Interval). IsInner x j) (sym same) itself, all.1)
outer_set (i ∷ is) (j ∷ js) (suc at) new all here = (all.0, outer_set is js at new all.1 here)

-- ---- boxes whose intervals have given widths

-- the interval of a field
pub at_width : (ws : List ℕ) (is : List Interval) (at : ℕ) (none : Interval) → AllZip IsInterval ws is → at < length ws → IsInterval (get_or ws at 0) (get_or is at none)
at_width [] is at none all fits = absurd (omega arith)
at_width (w ∷ ws) [] at none all fits = absurd all
at_width (w ∷ ws) (i ∷ is) zero none all fits = all.0
at_width (w ∷ ws) (i ∷ is) (suc at) none all fits = at_width ws is at none all.1 (omega arith)

-- another interval of the same width in its place
pub set_width : (ws : List ℕ) (is : List Interval) (at : ℕ) (new : Interval) → AllZip IsInterval ws is → IsInterval (get_or ws at 0) new → AllZip IsInterval ws (set is at new)
set_width [] [] at new all valid = all
set_width [] (i ∷ is) at new all valid = absurd all
set_width (w ∷ ws) [] at new all valid = absurd all
set_width (w ∷ ws) (i ∷ is) zero new all valid = (valid, all.1)
set_width (w ∷ ws) (i ∷ is) (suc at) new all valid = (all.0, set_width ws is at new all.1 valid)

-- the numbers in such a box have those widths
pub numbers_fit : (ws : List ℕ) (is : List Interval) (xs : List ℕ) → AllZip IsInterval ws is → length xs ≡ length ws → each_within is xs ≡ true
    → AllZip (λ w x. x < 2 ^ w) ws xs
numbers_fit [] is [] all long inside = tt
numbers_fit [] is (x ∷ xs) all long inside = absurd (omega arith)
numbers_fit (w ∷ ws) is [] all long inside = absurd (omega arith)
numbers_fit (w ∷ ws) [] (x ∷ xs) all long inside = absurd all
numbers_fit (w ∷ ws) (i ∷ is) (x ∷ xs) all long inside =
    let parts = and_parts (within i x) (each_within is xs) inside in
    let ends = and_parts (nat_le i.low x) (nat_le x i.high) parts.0 in
    let high = leb-true x i.high ends.1 in
    let valid = all.0 in
    (omega (arith, high, valid.fits), numbers_fit ws is xs all.1 (omega arith) parts.1)

-- the low ends lie in the box
pub lows_inside : (ws : List ℕ) (is : List Interval) → AllZip IsInterval ws is → each_within is (map (λ (i : Interval). i.low) is) ≡ true
lows_inside ws [] all = refl
lows_inside [] (i ∷ is) all = absurd all
lows_inside (w ∷ ws) (i ∷ is) all =
    let valid = all.0 in
    let here : within i i.low ≡ true = and_from _ _ (le-leb i.low i.low (omega arith)) (le-leb i.low i.high valid.ordered) in
    and_from (within i i.low) _ here (lows_inside ws is all.1)

-- one comparison after another is not less where neither is
then_not_less : (o p : Ordering) → o ≢ Less → p ≢ Less → ordering_then o p ≢ Less
then_not_less Less p first second = first
then_not_less Equal p first second = second
then_not_less Greater p first second = first

not_below : (x low : ℕ) → low ≤ x → nat_cmp x low ≢ Less
not_below x low above is = by_ranked _ _ _ (nat_cmp x low) (ranked x low (nat_cmp x low) refl)
    (λ less below. absurd (omega arith)) (λ equal same. cc (is, equal)) (λ greater over. cc (is, greater))

-- no list in the box is less than that of the low ends
pub lows_least : (is : List Interval) (xs : List ℕ) → length xs ≡ length is → each_within is xs ≡ true → slice_cmp nat_cmp xs (map (λ (i : Interval). i.low) is) ≢ Less
lows_least [] [] long inside = λ e. cc
lows_least [] (x ∷ xs) long inside = absurd (omega arith)
lows_least (i ∷ is) [] long inside = absurd (omega arith)
lows_least (i ∷ is) (x ∷ xs) long inside =
    let parts = and_parts (within i x) (each_within is xs) inside in
    let ends = and_parts (nat_le i.low x) (nat_le x i.high) parts.0 in
    let low = leb-true i.low x ends.0 in
    then_not_less (nat_cmp x i.low) _ (not_below x i.low low) (lows_least is xs (omega arith) parts.1)
