-- How many headers cells have.
use Rattle.std.proofs.Common.{◌≡◌, ◌∙◌, ◌+◌, ◌-◌, ◌*◌, ◌<◌, ◌≤◌, ℕ, zero, suc, List, [], ◌∷◌, length, set, slice_get, Option, Some, None, refl, sym, ap, arith}
use Rattle.std.proofs.lemmas.List.{set-get_or}
use Rattle.std.proofs.lemmas.Option.{get_or_from_slice_get, slice_get_within}
use Rattle.std.specs.List.{AllZip}
use Rattle.std.specs.Option.{option_map, option_map_or}
use Rattle.header_classes.specs.declared.interval.Interval.{Interval}
use Rattle.header_classes.specs.Interval.{IsInner, IsInterval}
use Rattle.header_classes.specs.Size.{breadth, size}

some_product : (a b : ℕ) → 1 ≤ a → 1 ≤ b → 1 ≤ a * b
some_product a b one other = grind arith

-- a cell has a header
pub size_some : (ws : List ℕ) (is : List Interval) → AllZip IsInterval ws is → 1 ≤ size is
size_some ws [] all = omega arith
size_some [] (i ∷ is) all = absurd all
size_some (w ∷ ws) (i ∷ is) all =
    let valid = all.0 in
    some_product (breadth i) (size is) (let e : 1 ≤ i.high + 1 - i.low = omega (arith, valid.ordered) in e) (size_some ws is all.1)

swap : (a b c : ℕ) → a * (b * c) ≡ b * (a * c)
swap a b c = grind arith

-- how many headers there are for one number of a field
others : (is : List Interval) (at : ℕ) → at < length is → (many : ℕ) × ((new : Interval) → size (set is at new) ≡ breadth new * many)
others [] at fits = absurd (omega arith)
others (i ∷ is) zero fits = (size is, λ new. refl)
others (i ∷ is) (suc at) fits =
    let rest = others is at (omega arith) in
    (breadth i * rest.0, λ new. ap (λ (n : ℕ). breadth i * n) (rest.1 new) ∙ swap (breadth i) (breadth new) rest.0)

sum_of_three : (a b c all many : ℕ) → (a + b) + c ≡ all → (a * many + b * many) + c * many ≡ all * many
sum_of_three a b c all many sum = let parts : ((a + b) + c) * many ≡ (a * many + b * many) + c * many = grind arith in sym parts ∙ ap (λ (n : ℕ). n * many) sum

-- one field more: what lies below, what lies above, and what is left
pub sizes_more : (part : List Interval) (at : ℕ) (outer inner : Interval) (below above : Option Interval) → slice_get part at ≡ Some outer → IsInner outer inner
    → option_map_or breadth below 0 ≡ inner.low - outer.low → option_map_or breadth above 0 ≡ outer.high - inner.high
    → (option_map_or size (option_map (λ i. set part at i) below) 0 + option_map_or size (option_map (λ i. set part at i) above) 0) + size (set part at inner) ≡ size part
sizes_more part at outer inner below above here nested low high =
    let many = (others part at (slice_get_within part at outer here)).0 in
    let set_size = (others part at (slice_get_within part at outer here)).1 in
    let some_size : (new : Option Interval) → option_map_or size (option_map (λ i. set part at i) new) 0 ≡ option_map_or breadth new 0 * many =
    λ (new : Option Interval). elim new as (λ (o : Option Interval). option_map_or size (option_map (λ i. set part at i) o) 0 ≡ option_map_or breadth o 0 * many) [ None ↦ (let e : 0 ≡ 0 * many = omega arith in e) | Some i ↦ set_size i ] in
    let same : set part at outer ≡ part = ap (λ (i : Interval). set part at i) (sym (get_or_from_slice_get part at outer outer here)) ∙ set-get_or part at outer in
    let whole : size part ≡ breadth outer * many = sym (ap size same) ∙ set_size outer in
    let sum : ((inner.low - outer.low) + (outer.high - inner.high)) + (inner.high + 1 - inner.low) ≡ outer.high + 1 - outer.low = omega (arith, nested.ordered, nested.low, nested.high) in
    rw (some_size below, some_size above, set_size inner, low, high, whole) (sum_of_three (inner.low - outer.low) (outer.high - inner.high) (breadth inner) (breadth outer) many sum)
