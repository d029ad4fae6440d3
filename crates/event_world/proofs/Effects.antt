-- Steps of the loops over the ports of a switch, and the ends of a link.
use Rattle.std.proofs.Common.{◌≡◌, ℕ, ◌+◌, ◌-◌, ◌^◌, ◌<◌, ◌≤◌, Bool, true, false, List, [], ◌∷◌, ◌++◌, map, filter_map, Option, Some, None, refl, sym, ap, ◌∙◌, append_assoc, zero, suc, if◌then◌else◌, arith}
use Rattle.std.specs.List.{range_with_len, sum}
use Rattle.std.specs.Option.{option_map_or, option_to_list}
use Rattle.std.proofs.lemmas.Grind.{pow_more}
use Rattle.std.proofs.lemmas.List.Elements.{filter_map-append}
use Rattle.std.proofs.lemmas.List.FromFn.{map-range_with_len_more}
use Rattle.std.proofs.lemmas.List.Sums.{sum_by_push}

-- after one port more, a list has what each port so far gives
pub mapped_more : {Y : Type 0} (f : ℕ → Y) (before so_far after : List Y) (n : ℕ) → so_far ≡ before ++ map f (range_with_len 1 n)
    → after ≡ so_far ++ f (n + 1) ∷ [] → after ≡ before ++ map f (range_with_len 1 (n + 1))
mapped_more {Y = Y} f before so_far after n is put =
    put ∙ ap (λ (ys : List Y). ys ++ f (n + 1) ∷ []) is ∙ append_assoc before (map f (range_with_len 1 n)) (f (n + 1) ∷ [])
    ∙ ap (λ (ys : List Y). before ++ ys) (sym (map-range_with_len_more f 1 n (n + 1) (omega arith)))

-- the numbers from one on have one more at their end
range_more : (a n j : ℕ) → a + n ≡ j → range_with_len a (n + 1) ≡ range_with_len a n ++ j ∷ []
range_more a zero j is = let same : a ≡ j = omega arith in ap (λ (k : ℕ). k ∷ []) same
range_more a (suc n) j is =
    let more : suc n + 1 ≡ suc (n + 1) = omega arith in
    ap (range_with_len a) more ∙ ap (λ (ks : List ℕ). a ∷ ks) (range_more (a + 1) n j (omega arith))

-- what one number gives
one_kept : {Y : Type 0} (f : ℕ → Option Y) (k : ℕ) (y : Option Y) → f k ≡ y → filter_map f (k ∷ []) ≡ option_to_list y
one_kept f k None is = rw is refl
one_kept f k (Some y) is = rw is refl

-- the same where a port gives something or nothing
pub kept_more : {Y : Type 0} (f : ℕ → Option Y) (before so_far after : List Y) (n : ℕ) → so_far ≡ before ++ filter_map f (range_with_len 1 n)
    → after ≡ so_far ++ option_to_list (f (n + 1)) → after ≡ before ++ filter_map f (range_with_len 1 (n + 1))
kept_more {Y = Y} f before so_far after n is put =
    let all = filter_map f (range_with_len 1 n) in
    let last : filter_map f (range_with_len 1 (n + 1)) ≡ all ++ option_to_list (f (n + 1)) =
    ap (filter_map f) (range_more 1 n (n + 1) (omega arith)) ∙ filter_map-append f (range_with_len 1 n) ((n + 1) ∷ [])
    ∙ ap (λ (ys : List Y). all ++ ys) (one_kept f (n + 1) (f (n + 1)) refl) in
    put ∙ ap (λ (ys : List Y). ys ++ option_to_list (f (n + 1))) is ∙ append_assoc before all (option_to_list (f (n + 1)))
    ∙ ap (λ (ys : List Y). before ++ ys) (sym last)

-- the same for a sum
pub summed_more : (f : ℕ → ℕ) (so_far more n : ℕ) → so_far ≡ sum (map f (range_with_len 1 n)) → more ≡ f (n + 1)
    → so_far + more ≡ sum (map f (range_with_len 1 (n + 1)))
summed_more f so_far more n is here =
    let all : sum (map f (range_with_len 1 (n + 1))) ≡ sum (map f (range_with_len 1 n)) + f (n + 1) =
    ap sum (map-range_with_len_more f 1 n (n + 1) (omega arith)) ∙ sum_by_push (λ (k : ℕ). k) (map f (range_with_len 1 n)) (f (n + 1)) in
    omega arith

-- the bit of a port is above all bits of a mask of the ports before it
bit_fits : (test : Bool) (k : ℕ) → (if test then 2 ^ k else 0) ≤ 2 ^ k
bit_fits true k = omega arith
bit_fits false k = omega arith

pub mask_grows : (mask bit n : ℕ) (test : Bool) → mask < 2 ^ n → bit ≡ (if test then 2 ^ (n + 1 - 1) else 0) → mask + bit < 2 ^ (n + 1)
mask_grows mask bit n test below is =
    let fits = bit_fits test (n + 1 - 1) in
    let here : n + 1 - 1 ≡ n = omega arith in
    let same : 2 ^ (n + 1 - 1) ≡ 2 ^ n = ap (λ (k : ℕ). 2 ^ k) here in
    let twice = pow_more 2 n in
    omega arith

-- both ends of a link, if there is one
abbrev pub both_ends : Option (ℕ × ℕ × ℕ × ℕ) → List (ℕ × ℕ)
both_ends ends = option_map_or (λ (link : ℕ × ℕ × ℕ × ℕ). (link.0, link.1) ∷ (link.2, link.3) ∷ []) ends []
