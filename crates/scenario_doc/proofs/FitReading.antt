-- What is known of readings that kept their rules.
use Rattle.std.proofs.Common.{arith, suc, zero, ◌≡◌, ◌≢◌, ℕ, ◌+◌, ◌<◌, List, [], ◌∷◌, length, take, get_or, map, Bool, true, false, ◌&&◌, ◌||◌, not, Ok, Err, refl, subst, sym, ◌∙◌, All, AllPairs}
use Rattle.std.specs.Prelude.{⊤}
use Rattle.std.specs.List.{list_any}
use Rattle.std.specs.Fmt.{decimal}
use Rattle.std.proofs.lemmas.List.{get_or-map, get_or-take, length-map, length-take-le}
use Rattle.std.proofs.lemmas.List.Folds.{list_any_at}
use Rattle.doc_forms.specs.Reading.{Reading, under, require, ◌>>=◌}
use Rattle.doc_forms.specs.declared.fail.DocFail.TheVariants.{Refused, OutOfMemory}
use Rattle.scenario_doc.specs.Rules.{at, each, each_from}

-- a reading kept its rules
abbrev pub IsKept : Reading ⊤ → Type 0
IsKept reading = reading ≡ Ok tt

pub under_kept : (step : List ℕ) (reading : Reading ⊤) → IsKept (under step reading) → IsKept reading
under_kept step (Ok x) e = e
under_kept step (Err (Refused number path)) e = absurd (cc)
under_kept step (Err OutOfMemory) e = absurd (cc)

pub both_kept : (one other : Reading ⊤) → IsKept (one >>= (λ kept. other)) → IsKept one × IsKept other
both_kept (Ok x) other e = (refl, e)
both_kept (Err why) other e = absurd (cc)

-- a part, and then the rest
pub part_kept : (step : List ℕ) (one other : Reading ⊤) → IsKept (under step one >>= (λ kept. other)) → IsKept one × IsKept other
part_kept step one other e = let parts = both_kept (under step one) other e in (under_kept step one parts.0, parts.1)

pub require_kept : (number : ℕ) (b : Bool) → IsKept (require number b) → b ≡ true
require_kept number true e = refl
require_kept number false e = absurd (cc)

pub require_not_kept : (number : ℕ) (b : Bool) → IsKept (require number (not b)) → b ≡ false
require_not_kept number true e = absurd (cc)
require_not_kept number false e = refl

-- each element of a list keeps its rules, if the list does
pub each_from_kept : {A : Type 0} (rules : ℕ → A → Reading ⊤) (first : ℕ) (xs : List A) → IsKept (each_from first rules xs)
    → (k : ℕ) (d : A) → k < length xs → IsKept (rules (first + k) (get_or xs k d))
each_from_kept rules first [] e k d h = absurd (omega arith)
each_from_kept rules first (x ∷ xs) e zero d h =
    let same : first ≡ first + 0 = omega arith in
    subst (λ (n : ℕ). IsKept (rules n x)) same (part_kept (decimal first) (rules first x) (each_from (first + 1) rules xs) e).0
each_from_kept rules first (x ∷ xs) e (suc k) d h =
    let rest = (part_kept (decimal first) (rules first x) (each_from (first + 1) rules xs) e).1 in
    let same : first + 1 + k ≡ first + suc k = omega arith in
    subst (λ (n : ℕ). IsKept (rules n (get_or xs k d))) same (each_from_kept rules (first + 1) xs rest k d (omega arith))

pub each_kept : {A : Type 0} (rules : ℕ → A → Reading ⊤) (xs : List A) → IsKept (each rules xs) → (k : ℕ) (d : A) → k < length xs
    → IsKept (rules k (get_or xs k d))
each_kept rules xs e k d h =
    let same : 0 + k ≡ k = omega arith in
    subst (λ (n : ℕ). IsKept (rules n (get_or xs k d))) same (each_from_kept rules 0 xs e k d h)

-- what the rules of an element show of it holds of all, where a range is known of each
pub all_kept : {A : Type 0} (W P : A → Type 0) (rules : ℕ → A → Reading ⊤) (xs : List A) → All W xs → IsKept (each rules xs)
    → ((k : ℕ) (x : A) → W x → IsKept (rules k x) → P x) → All P xs
all_kept W P rules xs wide e shows = λ k d h. shows k (get_or xs k d) (wide k d h) (each_kept rules xs e k d h)

not_both : (a b : Bool) → (a ≡ true → b ≡ true) → b ≡ false → a ≡ false
not_both true b gives e = let now = gives refl in absurd (cc)
not_both false b gives e = refl

-- no element passes a test that none passes
pub none_at : {X : Type 0} (f : X → Bool) (xs : List X) → list_any f xs ≡ false → (k : ℕ) (d : X) → k < length xs → f (get_or xs k d) ≡ false
none_at f xs e k d h = not_both (f (get_or xs k d)) (list_any f xs) (list_any_at f xs k d h) e

pub true_not_false : true ≡ false → ⊥
true_not_false e = absurd (cc)

pub and_parts : (a b : Bool) → (a && b) ≡ true → (a ≡ true) × (b ≡ true)
and_parts true b e = (refl, e)
and_parts false b e = absurd (cc)

pub or_parts : (a b : Bool) → (a || b) ≡ false → (a ≡ false) × (b ≡ false)
or_parts true b e = absurd (cc)
or_parts false b e = (refl, e)

-- a value that a list's elements show is none of those before it, if a test finds none of them
pub differ_before : {A X : Type 0} (f : A → X) (test : A → A → Bool) (xs : List A) → ((x y : A) → f x ≡ f y → test y x ≡ true)
    → ((j : ℕ) (e : A) → j < length xs → list_any (test (get_or xs j e)) (take j xs) ≡ false)
    → AllPairs (λ (one other : X). one ≢ other) (map f xs)
differ_before f test [] finds before i j d h k = absurd (omega arith)
differ_before {A} {X} f test (e ∷ rest) finds before i j d h k =
    let xs : List A = e ∷ rest in
    let within : j < length xs = simp (length-map) at k in
    let earlier : i < length xs = omega arith in
    let fewer : i < length (take j xs) = rw (length-take-le j xs (omega arith)) h in
    let none : test (get_or xs j e) (get_or xs i e) ≡ false = rw (get_or-take j xs i e h) at (none_at (test (get_or xs j e)) (take j xs) (before j e within) i e fewer) in
    rw (get_or-map f xs i e d earlier, get_or-map f xs j e d within)
    (λ same. true_not_false (◌∙◌ (sym (finds (get_or xs i e) (get_or xs j e) same)) none))

-- a test of what a list's elements show
pub any-map : {A X : Type 0} (f : A → X) (test : X → Bool) (xs : List A) → list_any test (map f xs) ≡ list_any (λ x. test (f x)) xs
any-map f test [] = refl
any-map f test (x ∷ xs) = rw (any-map f test xs) refl
