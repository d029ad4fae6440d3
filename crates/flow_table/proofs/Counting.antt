-- Counting an entry changes no packet's best entry: rank and match stay.
use Rattle.std.proofs.Common.{◌≡◌, ◌&&◌, ◌||◌, ℕ, zero, suc, Bool, List, [], ◌∷◌, not, nat_le, refl, ap}
use Rattle.std.specs.List.{list_all, position_or_len}
use Rattle.listed.specs.Lists.{changed_at, length_changed}
use Rattle.of10_match.specs.declared.header.Header.{Header}
use Rattle.flow_table.specs.Best.{best_place, has_greatest_rank}
use Rattle.flow_table.specs.Entry.{counted, rank, takes_packet}
use Rattle.flow_table.specs.declared.entry.Entry.{Entry}

-- a change that no test sees changes no answer about all
all_changed : {X : Type 0} (p : X → Bool) (f : X → X) (n : ℕ) (xs : List X) → ((x : X) → p (f x) ≡ p x) → list_all p (changed_at n f xs) ≡ list_all p xs
all_changed p f n [] unseen = refl
all_changed p f zero (x ∷ xs) unseen = ap (λ (b : Bool). b && list_all p xs) (unseen x)
all_changed p f (suc n) (x ∷ xs) unseen = ap (λ (b : Bool). p x && b) (all_changed p f n xs unseen)

-- two tests that agree pass at one first place
first_agrees : {X : Type 0} (p q : X → Bool) (xs : List X) → ((x : X) → q x ≡ p x) → position_or_len q xs ≡ position_or_len p xs
first_agrees p q [] same = refl
first_agrees p q (x ∷ xs) same = let rest = first_agrees p q xs same in rw (same x, rest) refl

-- nor the first place, where the new test agrees with the old one
first_changed : {X : Type 0} (p q : X → Bool) (f : X → X) (n : ℕ) (xs : List X) → ((x : X) → q x ≡ p x) → ((x : X) → p (f x) ≡ p x)
    → position_or_len q (changed_at n f xs) ≡ position_or_len p xs
first_changed p q f n [] same unseen = refl
first_changed p q f zero (x ∷ xs) same unseen =
    let rest = first_agrees p q xs same in
    rw (same (f x), unseen x, rest) refl
first_changed p q f (suc n) (x ∷ xs) same unseen =
    let rest = first_changed p q f n xs same unseen in
    rw (same x, rest) refl

pub same_best : (entries : List Entry) (place now port : ℕ) (header : Header)
    → best_place (changed_at place (counted now) entries) port header ≡ best_place entries port header
same_best entries place now port header =
    let f = counted now in
    let after = changed_at place f entries in
    let same : (e : Entry) → has_greatest_rank after port header e ≡ has_greatest_rank entries port header e = λ e.
    ap (λ (b : Bool). takes_packet port header e && b)
    (all_changed (λ other. not (takes_packet port header other) || nat_le (rank other) (rank e)) f place entries (λ x. refl)) in
    let first = first_changed (has_greatest_rank entries port header) (has_greatest_rank after port header) f place entries same (λ x. refl) in
    let size = length_changed place f entries in
    rw (first, size) refl
