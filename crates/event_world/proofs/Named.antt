-- Pools by their names: what holds of each, a change to one of them, and its queue.
use Rattle.std.proofs.Common.{◌≡◌, ◌∙◌, true, cond, List, [], ◌∷◌, Option, Some, option_map, All, refl, subst, sym, inl, inr}
use Rattle.std.specs.Prelude.{IsSome}
use Rattle.std.proofs.lemmas.Bool.{both_ways, cases_Bool, cond_both}
use Rattle.std.proofs.lemmas.List.Elements.{All-head, All-map, All-tail, All-weaker}
use Rattle.message_pools.specs.Queue.{Queue, Reserved}
use Rattle.pool_book.specs.declared.name.PoolName.{PoolName}
use Rattle.pool_book.specs.Change.{is_itself, same_name}
use Rattle.pool_book.specs.Names.{is_same}
use Rattle.pool_book.specs.Pools.{changed, pool_of, queues}
use Rattle.event_world.proofs.Lists.{some_image}

-- Where each pool has a property, each has another one after a change if it follows, and if the changed pool has it.
pub all_named : {A : Type 0} (P Q : PoolName × A → Type 0) (name : PoolName) (change : A → A) (pools : List (PoolName × A)) → All P pools → ((pool : PoolName × A) → P pool → Q pool) → ((pool : PoolName × A) → is_same name pool.0 ≡ true → P pool → Q (pool.0, change pool.1)) → All Q (changed name change pools)
all_named {A = A} P Q name change pools all keep at =
    All-map Q (λ (pool : PoolName × A). cond (is_same name pool.0) (pool.0, change pool.1) pool) pools
    (All-weaker P (λ (pool : PoolName × A). Q (cond (is_same name pool.0) (pool.0, change pool.1) pool))
    (λ pool p. cond_both (is_same name pool.0) (pool.0, change pool.1) pool Q (λ holds. at pool holds p) (λ fails. keep pool p)) pools all)

-- what holds of each pool holds of the pool of a name
pub all_pool_of : {A : Type 0} (P : PoolName × A → Type 0) (name : PoolName) (pools : List (PoolName × A)) (a : A) → All P pools → pool_of name pools ≡ Some a → P (name, a)
all_pool_of P name [] a all e = absurd cc
all_pool_of {A = A} P name (pool ∷ pools) a all e = elim (cases_Bool (is_same name pool.0)) [
  | inl holds ↦
      let here : ◌≡◌ {A = Option A} (Some pool.1) (Some a) = rw holds at e in
      let same : pool.1 ≡ a = cc in
      subst (λ (b : A). P (name, b)) same (subst (λ (n : PoolName). P (n, pool.1)) (sym (same_name name pool.0 holds)) (All-head P pool pools all))
  | inr fails ↦ all_pool_of P name pools a (All-tail P pool pools all) (rw fails at e)
]

-- whether names are the same doesn't depend on their order
pub same_back : (a b : PoolName) → is_same a b ≡ is_same b a
same_back a b = elim (cases_Bool (is_same a b)) [
  | inl holds ↦
      let same : a ≡ b = same_name a b holds in
      let back : is_same b a ≡ true = subst (λ o. is_same b o ≡ true) (sym same) (is_itself b) in
      holds ∙ sym back
  | inr fails ↦ elim (cases_Bool (is_same b a)) [
    | inl back ↦
        let same : b ≡ a = same_name b a back in
        absurd (both_ways (is_same a b) fails (subst (λ o. is_same a o ≡ true) (sym same) (is_itself a)))
    | inr not ↦ fails ∙ sym not
  ]
]

-- ---- the queue of a pool

-- a pool without its room
pub pool_of_queues : (name : PoolName) (pools : List (PoolName × Reserved)) → pool_of name (queues pools) ≡ option_map (λ (pool : Reserved). pool.queue) (pool_of name pools)
pool_of_queues name [] = refl
pool_of_queues name (pool ∷ pools) = elim (cases_Bool (is_same name pool.0)) [
  | inl holds ↦ rw holds refl
  | inr fails ↦ rw fails (pool_of_queues name pools)
]

-- a name has a pool where it has a queue
pub there_by_queues : (name : PoolName) (pools : List (PoolName × Reserved)) → IsSome (pool_of name (queues pools)) → IsSome (pool_of name pools)
there_by_queues name pools there = (some_image (λ (pool : Reserved). pool.queue) (pool_of name pools)).0 (subst (λ (queue : Option Queue). IsSome queue) (pool_of_queues name pools) there)

-- and a queue where it has a pool
pub queue_there : (name : PoolName) (pools : List (PoolName × Reserved)) → IsSome (pool_of name pools) → IsSome (pool_of name (queues pools))
queue_there name pools there = subst (λ (queue : Option Queue). IsSome queue) (sym (pool_of_queues name pools)) ((some_image (λ (pool : Reserved). pool.queue) (pool_of name pools)).1 there)
