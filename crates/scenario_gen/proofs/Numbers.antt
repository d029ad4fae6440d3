-- Lists that are made of numbers in order.
use Rattle.std.proofs.Common.{arith, ◌≡◌, ℕ, ◌+◌, ◌<◌, List, [], ◌∷◌, ◌++◌, map, refl, ap, subst, sym, All, AllPairs}
use Rattle.std.specs.List.{range_with_len}
use Rattle.std.proofs.lemmas.List.FromFn.{get_or-map-range_with_len, length-map-range_with_len, map-range_with_len_more}

-- one more
pub one_more : {X : Type 0} (f : ℕ → X) (n : ℕ) → map f (range_with_len 0 (n + 1)) ≡ map f (range_with_len 0 n) ++ f n ∷ []
one_more f n = map-range_with_len_more f 0 n n (omega arith)

-- what holds of each number holds of all that are made of them
pub all_by : {X : Type 0} (P : X → Type 0) (f : ℕ → X) (n : ℕ) → ((k : ℕ) → k < n → P (f k)) → All P (map f (range_with_len 0 n))
all_by P f n holds k d less =
    let within : k < n = rw length-map-range_with_len at less in
    subst P (sym (get_or-map-range_with_len f 0 n k k d within (omega arith))) (holds k within)

-- the same of each two
pub pairs_by : {X : Type 0} (R : X → X → Type 0) (f : ℕ → X) (n : ℕ) → ((i j : ℕ) → i < j → j < n → R (f i) (f j))
    → AllPairs R (map f (range_with_len 0 n))
pairs_by R f n holds i j d order less =
    let within : j < n = rw length-map-range_with_len at less in
    rw (get_or-map-range_with_len f 0 n i i d (omega arith) (omega arith), get_or-map-range_with_len f 0 n j j d within (omega arith))
    (holds i j order within)

-- two changes of each element are one
pub map_twice : {X Y Z : Type 0} (g : Y → Z) (f : X → Y) (xs : List X) → map g (map f xs) ≡ map (λ x. g (f x)) xs
map_twice g f [] = refl
map_twice g f (x ∷ xs) = ap (λ zs. g (f x) ∷ zs) (map_twice g f xs)
