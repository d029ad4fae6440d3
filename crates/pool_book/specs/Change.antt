-- What a change to the pool of one name keeps, and which names there are.
use Rattle.std.specs.Prelude.{◌≡◌, ◌==◌, true, false, ℕ, List, [], ◌∷◌, map, option_map, slice_get, Some, IsSome, refl}
use Rattle.std.proofs.Common.{ap, sym, inl, inr, ◌∙◌, zero, suc}
use Rattle.std.proofs.lemmas.Bool.{and_from, and_parts, both_ways, cases_Bool, eq-eqb, eqb-true}
use Rattle.pool_book.specs.declared.name.PoolName.{PoolName}
use Rattle.pool_book.specs.declared.name.PoolName.TheVariants.{Ctl, Pkt, Note, App, Admin, Recv}
use Rattle.pool_book.specs.Names.{is_same, names}
use Rattle.pool_book.specs.Order.{named, placed}
use Rattle.pool_book.specs.Places.{IsName, place}
use Rattle.pool_book.specs.Pools.{changed, pool_of}

-- names that are found to be the same are the same
pub same_name : (a b : PoolName) → is_same a b ≡ true → a ≡ b
same_name (Ctl s) (Ctl t) e = ap Ctl (eqb-true s t e)
same_name (Pkt s p) (Pkt t q) e = let both = and_parts (s == t) (p == q) e in let one = eqb-true s t both.0 in let two = eqb-true p q both.1 in cc
same_name (Note s) (Note t) e = ap Note (eqb-true s t e)
same_name (App c s) (App d t) e = let both = and_parts (c == d) (s == t) e in let one = eqb-true c d both.0 in let two = eqb-true s t both.1 in cc
same_name (Admin c) (Admin d) e = ap Admin (eqb-true c d e)
same_name (Recv h) (Recv i) e = ap Recv (eqb-true h i e)
same_name _ _ e = absurd cc

-- a name is the same as itself
pub is_itself : (a : PoolName) → is_same a a ≡ true
is_itself (Ctl s) = eq-eqb s s refl
is_itself (Pkt s p) = and_from (s == s) (p == p) (eq-eqb s s refl) (eq-eqb p p refl)
is_itself (Note s) = eq-eqb s s refl
is_itself (App c s) = and_from (c == c) (s == s) (eq-eqb c c refl) (eq-eqb s s refl)
is_itself (Admin c) = eq-eqb c c refl
is_itself (Recv h) = eq-eqb h h refl

-- a change to a pool keeps all names in their order
pub names_kept : {A : Type 0} (name : PoolName) (change : A → A) (pools : List (PoolName × A)) → map (λ (pool : PoolName × A). pool.0) (changed name change pools) ≡ map (λ (pool : PoolName × A). pool.0) pools
names_kept name change [] = refl
names_kept name change (pool ∷ pools) = elim (cases_Bool (is_same name pool.0)) [
  | inl holds ↦ rw holds (ap (λ rest. pool.0 ∷ rest) (names_kept name change pools))
  | inr fails ↦ rw fails (ap (λ rest. pool.0 ∷ rest) (names_kept name change pools))
]

-- the changed pool is the one of its name
pub pool_of_changed_same : {A : Type 0} (name : PoolName) (change : A → A) (pools : List (PoolName × A)) → pool_of name (changed name change pools) ≡ option_map change (pool_of name pools)
pool_of_changed_same name change [] = refl
pool_of_changed_same name change (pool ∷ pools) = elim (cases_Bool (is_same name pool.0)) [
  | inl holds ↦ rw (holds, holds) refl
  | inr fails ↦ rw (fails, fails) (pool_of_changed_same name change pools)
]

-- the pools of other names are as they were
pub pool_of_changed_other : {A : Type 0} (name other : PoolName) (change : A → A) (pools : List (PoolName × A)) → is_same name other ≡ false → pool_of other (changed name change pools) ≡ pool_of other pools
pool_of_changed_other name other change [] differs = refl
pool_of_changed_other name other change (pool ∷ pools) differs = elim (cases_Bool (is_same name pool.0)) [
  | inl holds ↦ elim (cases_Bool (is_same other pool.0)) [
    | inl also ↦
        let same : name ≡ other = same_name name pool.0 holds ∙ sym (same_name other pool.0 also) in
        let yes' : is_same name other ≡ true = ap (is_same name) (sym same) ∙ is_itself name in
        absurd (both_ways (is_same name other) differs yes')
    | inr not ↦ rw (holds, not) (pool_of_changed_other name other change pools differs)
  ]
  | inr fails ↦ elim (cases_Bool (is_same other pool.0)) [
    | inl also ↦ rw (fails, also) refl
    | inr not ↦ rw (fails, not) (pool_of_changed_other name other change pools differs)
  ]
]

-- a name that stands among the names of pools has a pool
there_at : {A : Type 0} (name : PoolName) (pools : List (PoolName × A)) (k : ℕ) → slice_get (map (λ (pool : PoolName × A). pool.0) pools) k ≡ Some name → IsSome (pool_of name pools)
there_at name [] k e = absurd cc
there_at name (pool ∷ pools) zero e =
    let same : name ≡ pool.0 = cc in
    let holds : is_same name pool.0 ≡ true = ap (is_same name) (sym same) ∙ is_itself name in
    rw holds refl
there_at name (pool ∷ pools) (suc k) e = elim (cases_Bool (is_same name pool.0)) [
  | inl holds ↦ rw holds refl
  | inr fails ↦ rw fails (there_at name pools k e)
]

-- a name that has a pool stands among the names of pools
stands_at : {A : Type 0} (name : PoolName) (pools : List (PoolName × A)) → IsSome (pool_of name pools) → (k : ℕ) × (slice_get (map (λ (pool : PoolName × A). pool.0) pools) k ≡ Some name)
stands_at name [] e = absurd cc
stands_at name (pool ∷ pools) e = elim (cases_Bool (is_same name pool.0)) [
  | inl holds ↦ (0, ap Some (sym (same_name name pool.0 holds)))
  | inr fails ↦ let rest : IsSome (pool_of name pools) = rw fails at e in let at = stands_at name pools rest in (suc at.0, at.1)
]

-- each name of a network has its pool
pub pool_there : {A : Type 0} (ports : List ℕ) (controllers hosts : ℕ) (name : PoolName) (pools : List (PoolName × A)) → map (λ (pool : PoolName × A). pool.0) pools ≡ names ports controllers hosts → IsName ports controllers hosts name → IsSome (pool_of name pools)
pool_there ports controllers hosts name pools all is = there_at name pools (place ports controllers name) (ap (λ xs. slice_get xs (place ports controllers name)) all ∙ placed ports controllers hosts name is)

-- no other name has a pool
pub pool_named : {A : Type 0} (ports : List ℕ) (controllers hosts : ℕ) (name : PoolName) (pools : List (PoolName × A)) → map (λ (pool : PoolName × A). pool.0) pools ≡ names ports controllers hosts → IsSome (pool_of name pools) → IsName ports controllers hosts name
pool_named ports controllers hosts name pools all there =
    let at = stands_at name pools there in
    (named ports controllers hosts at.0 name (ap (λ xs. slice_get xs at.0) (sym all) ∙ at.1)).0
