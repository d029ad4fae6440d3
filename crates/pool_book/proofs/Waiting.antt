-- The first pool in which something waits.
use Rattle.std.proofs.Common.{◌≡◌, ◌≢◌, ◌∙◌, ◌⊎◌, ◌↔◌, ℕ, ◌<◌, ◌≤◌, Bool, true, false, cond, List, [], ◌∷◌, ◌++◌, length, map, slice_get, Option, Some, None, zero, suc, ap, arith, inl, inr, refl, subst, sym, All}
use Rattle.std.specs.Prelude.{filter, filter_map, option_and_then}
use Rattle.std.proofs.lemmas.Bool.{cases_Bool}
use Rattle.std.proofs.lemmas.List.{length-map}
use Rattle.std.proofs.lemmas.List.Elements.{All-map, All-weaker}
use Rattle.std.proofs.lemmas.Option.{slice_get_within}
use Rattle.listed.specs.Lists.{all_unmapped}
use Rattle.number_set.specs.Numbers.{first_from, first_from_some, first_from_none}
use Rattle.message_pools.specs.Queue.{Queue, Reserved, head_of, rest_of, with_last}
use Rattle.message_pools.specs.declared.item.Item.{Item}
use Rattle.pool_book.specs.declared.actor.Actor.{Actor}
use Rattle.pool_book.specs.declared.name.PoolName.{PoolName}
use Rattle.pool_book.specs.Names.{is_same_actor, names, taker}
use Rattle.pool_book.specs.Places.{Booked, FirstWithin, Network, Reaches, head_name, marks, waits}
use Rattle.pool_book.specs.Pools.{IsQuiet, Named, first_waiting, first_waiting_for, queues}
use Rattle.pool_book.proofs.Finding.{first_given, none_given}

-- ---- queues

-- a queue in which something waits has a first item
some_head : (first : ℕ) (items : List Item) → waits (record { first = first; items = items }) ≡ true → (item : Item) × (head_of (record { first = first; items = items }) ≡ Some (first, item))
some_head first [] e = absurd cc
some_head first (item ∷ rest) e = (item, refl)

no_head : (first : ℕ) (items : List Item) → waits (record { first = first; items = items }) ≢ true → head_of (record { first = first; items = items }) ≡ None
no_head first [] not = refl
no_head first (item ∷ rest) not = absurd (not refl)

pub head_name_some : (name : PoolName) (queue : Queue) → waits queue ≡ true → head_name (name, queue) ≡ Some (name, queue.first)
head_name_some name queue e = let head = some_head queue.first queue.items e in rw head.1 refl

pub head_name_none : (name : PoolName) (queue : Queue) → waits queue ≢ true → head_name (name, queue) ≡ None
head_name_none name queue not = let none = no_head queue.first queue.items not in rw none refl

items_wait : (items : List Item) (item : Item) (first : ℕ) → waits (record { first = first; items = items ++ item ∷ [] }) ≡ true
items_wait [] item first = refl
items_wait (one ∷ rest) item first = refl

pub last_waits : (queue : Queue) (item : Item) → waits (with_last queue item) ≡ true
last_waits queue item = items_wait queue.items item queue.first

empty_waits : (first : ℕ) (items : List Item) → items ≡ [] → waits (record { first = first; items = items }) ≡ false
empty_waits first [] e = refl
empty_waits first (item ∷ rest) e = absurd cc

pub no_item_waits : (queue : Queue) → queue.items ≡ [] → waits queue ≡ false
no_item_waits queue e = empty_waits queue.first queue.items e

items_not_waiting : (first : ℕ) (items : List Item) → waits (record { first = first; items = items }) ≡ false → items ≡ []
items_not_waiting first [] e = refl
items_not_waiting first (item ∷ rest) e = absurd cc

pub no_waiting_item : (queue : Queue) → waits queue ≡ false → queue.items ≡ []
no_waiting_item queue e = items_not_waiting queue.first queue.items e

rest_waits : (first : ℕ) (items : List Item) → (rest_of (record { first = first; items = items })).items ≢ [] → waits (rest_of (record { first = first; items = items })) ≡ waits (record { first = first; items = items })
rest_waits first [] not = refl
rest_waits first (item ∷ []) not = absurd (not refl)
rest_waits first (item ∷ next ∷ rest) not = refl

-- where the queue without its first item is not empty, the queue was not
pub rest_still_waits : (queue new : Queue) → new ≡ rest_of queue → new.items ≢ [] → waits new ≡ waits queue
rest_still_waits queue new e not = ap waits e ∙ rest_waits queue.first queue.items (λ none. not (ap (λ (q : Queue). q.items) e ∙ none))

-- ---- marks and heads

mark_at : (pools : List (PoolName × Reserved)) (k : ℕ) (pool : PoolName × Queue) → slice_get (queues pools) k ≡ Some pool → slice_get (marks pools) k ≡ Some (waits pool.1)
mark_at [] k pool e = absurd cc
mark_at (one ∷ pools) zero pool e = let same : (one.0, one.1.queue) ≡ pool = cc in ap (λ (p : PoolName × Queue). Some (waits p.1)) same
mark_at (one ∷ pools) (suc k) pool e = mark_at pools k pool e

marked_pool : (pools : List (PoolName × Reserved)) (k : ℕ) → slice_get (marks pools) k ≡ Some true → (pool : PoolName × Queue) × (slice_get (queues pools) k ≡ Some pool) × (waits pool.1 ≡ true)
marked_pool [] k e = absurd cc
marked_pool (one ∷ pools) zero e = let holds : waits one.1.queue ≡ true = cc in ((one.0, one.1.queue), refl, holds)
marked_pool (one ∷ pools) (suc k) e = marked_pool pools k e

-- nothing waits where there is no mark
unmarked : (pools : List (PoolName × Reserved)) (k : ℕ) (pool : PoolName × Queue) → slice_get (queues pools) k ≡ Some pool → slice_get (marks pools) k ≢ Some true → head_name pool ≡ None
unmarked pools k pool at not = head_name_none pool.0 pool.1 (λ holds. not (mark_at pools k pool at ∙ ap Some holds))

-- ---- the first of all

pub first_is : (pools : List (PoolName × Reserved)) (flags : List Bool) (number : ℕ) → flags ≡ marks pools → first_from 0 flags ≡ Some number → option_and_then head_name (slice_get (queues pools) number) ≡ first_waiting (queues pools)
first_is pools flags number e first =
    let at = first_from_some 0 flags number first in
    let mark : slice_get (marks pools) number ≡ Some true = subst (λ all. slice_get all number ≡ Some true) e at.1 in
    let pool = marked_pool pools number mark in
    let given = first_given head_name (queues pools) number pool.0 (pool.0.0, pool.0.1.first) pool.1 (head_name_some pool.0.0 pool.0.1 pool.2)
    (λ k other below there. unmarked pools k other there (λ holds. let fails = at.2 k (omega arith) below in let clear : slice_get (marks pools) k ≡ Some false = subst (λ all. slice_get all k ≡ Some false) e fails in absurd cc)) in
    ap (option_and_then head_name) pool.1 ∙ head_name_some pool.0.0 pool.0.1 pool.2 ∙ sym given

pub first_none : (pools : List (PoolName × Reserved)) (flags : List Bool) → flags ≡ marks pools → first_from 0 flags ≡ None → first_waiting (queues pools) ≡ None
first_none pools flags e none =
    none_given head_name (queues pools) (λ k other there. unmarked pools k other there (λ holds. first_from_none 0 flags none k (omega arith) (subst (λ all. slice_get all k ≡ Some true) (sym e) holds)))

-- ---- the first within a range

pub within_none : (flags : List Bool) (start end : ℕ) → first_from start flags ≡ None → FirstWithin start end flags None
within_none flags start end none = λ k from below holds. first_from_none start flags none k from holds

pub within_past : (flags : List Bool) (start end number : ℕ) → first_from start flags ≡ Some number → end ≤ number → FirstWithin start end flags None
within_past flags start end number first past = λ k from below holds.
    let at = first_from_some start flags number first in
    let fails = at.2 k from (omega arith) in
    absurd cc

pub within_some : (flags : List Bool) (start end number : ℕ) → first_from start flags ≡ Some number → number < end → FirstWithin start end flags (Some number)
within_some flags start end number first below =
    let at = first_from_some start flags number first in
    (at.0, below, at.1, λ k from before holds. let fails = at.2 k from before in absurd cc)

-- ---- the first from which an actor takes

-- the name of a pool from which an actor takes and in which something waits, and the number of the first item
abbrev head_for : Actor → PoolName × Queue → Option (PoolName × ℕ)
head_for who pool = cond (is_same_actor (taker pool.0) who) (head_name pool) None

passed_on : {X Y : Type 0} (p : Y → Bool) (h g : X → Option Y) (o : (x : X) → ((h x ≡ None) × (g x ≡ None)) ⊎ ((y : Y) × (h x ≡ Some y) × (g x ≡ cond (p y) (Some y) None))) → (xs : List X) → filter p (filter_map h xs) ≡ filter_map g xs
passed_on p h g o [] = refl
passed_on p h g o (x ∷ xs) = elim (o x) [
  | inl (none, too) ↦ rw (none, too) (passed_on p h g o xs)
  | inr (y, some, then) ↦ elim (cases_Bool (p y)) [
    | inl holds ↦ rw (some, then, holds) (ap (λ rest. y ∷ rest) (passed_on p h g o xs))
    | inr fails ↦ rw (some, then, fails) (passed_on p h g o xs)
  ]
]

-- what a head of a queue becomes
head_cases : (who : Actor) (name : PoolName) (queue : Queue) (o : Option (ℕ × Item)) → head_of queue ≡ o → ((head_name (name, queue) ≡ None) × (head_for who (name, queue) ≡ None)) ⊎ ((y : PoolName × ℕ) × (head_name (name, queue) ≡ Some y) × (head_for who (name, queue) ≡ cond (is_same_actor (taker y.0) who) (Some y) None))
head_cases who name queue None e = elim (cases_Bool (is_same_actor (taker name) who)) [
  | inl holds ↦ inl (rw e refl, rw (holds, e) refl)
  | inr fails ↦ inl (rw e refl, rw fails refl)
]
head_cases who name queue (Some head) e = inr ((name, head.0), rw e refl, rw e refl)

for_actor : (who : Actor) (pools : Named) → first_waiting_for who pools ≡ slice_get (filter_map (head_for who) pools) 0
for_actor who pools = ap (λ all. slice_get all 0) (passed_on (λ (pool : PoolName × ℕ). is_same_actor (taker pool.0) who) head_name (head_for who) (λ pool. head_cases who pool.0 pool.1 (head_of pool.1) refl) pools)

-- a pool that an actor doesn't take from, or that is not marked, gives nothing
gives_none : (who : Actor) (pools : List (PoolName × Reserved)) (k : ℕ) (pool : PoolName × Queue) → slice_get (queues pools) k ≡ Some pool → (is_same_actor (taker pool.0) who ≡ true → slice_get (marks pools) k ≢ Some true) → head_for who pool ≡ None
gives_none who pools k pool at not = elim (cases_Bool (is_same_actor (taker pool.0) who)) [
  | inl holds ↦ rw holds (unmarked pools k pool at (not holds))
  | inr fails ↦ rw fails refl
]

pub first_for : (who : Actor) (pools : List (PoolName × Reserved)) (number : ℕ) → slice_get (marks pools) number ≡ Some true → ((pool : PoolName × Queue) → slice_get (queues pools) number ≡ Some pool → is_same_actor (taker pool.0) who ≡ true) → ((k : ℕ) (pool : PoolName × Queue) → k < number → slice_get (queues pools) k ≡ Some pool → is_same_actor (taker pool.0) who ≡ true → slice_get (marks pools) k ≢ Some true) → option_and_then head_name (slice_get (queues pools) number) ≡ first_waiting_for who (queues pools)
first_for who pools number mark own before =
    let pool = marked_pool pools number mark in
    let mine = own pool.0 pool.1 in
    let head = head_name_some pool.0.0 pool.0.1 pool.2 in
    let given = first_given (head_for who) (queues pools) number pool.0 (pool.0.0, pool.0.1.first) pool.1 (rw mine head)
    (λ k other below there. gives_none who pools k other there (before k other below there)) in
    ap (option_and_then head_name) pool.1 ∙ head ∙ sym given ∙ sym (for_actor who (queues pools))

pub none_for : (who : Actor) (pools : List (PoolName × Reserved)) → ((k : ℕ) (pool : PoolName × Queue) → slice_get (queues pools) k ≡ Some pool → is_same_actor (taker pool.0) who ≡ true → slice_get (marks pools) k ≢ Some true) → first_waiting_for who (queues pools) ≡ None
none_for who pools all = for_actor who (queues pools) ∙ none_given (head_for who) (queues pools) (λ k other there. gives_none who pools k other there (all k other there))

-- a number with a mark is that of a pool
pub marked_within : (pools : List (PoolName × Reserved)) (flags : List Bool) (number : ℕ) → flags ≡ marks pools → slice_get flags number ≡ Some true → number < length pools
marked_within pools flags number e at =
    let within = slice_get_within flags number true at in
    let long = ap length e ∙ length-map pools (λ (pool : PoolName × Reserved). waits pool.1.queue) in
    omega arith

name_in : (pools : List (PoolName × Reserved)) (k : ℕ) (pool : PoolName × Queue) → slice_get (queues pools) k ≡ Some pool → slice_get (map (λ (pool : PoolName × Reserved). pool.0) pools) k ≡ Some pool.0
name_in [] k pool e = absurd cc
name_in (one ∷ pools) zero pool e = let same : (one.0, one.1.queue) ≡ pool = cc in ap (λ (p : PoolName × Queue). Some p.0) same
name_in (one ∷ pools) (suc k) pool e = name_in pools k pool e

-- the name at a number among those of the network
name_of : (net : Network) (pools : List (PoolName × Reserved)) (flags : List Bool) (k : ℕ) (pool : PoolName × Queue) → Booked net pools flags → slice_get (queues pools) k ≡ Some pool → slice_get (names net.ports net.controllers net.hosts) k ≡ Some pool.0
name_of net pools flags k pool book at = ap (λ all. slice_get all k) (sym book.named) ∙ name_in pools k pool at

-- what `first_of` answers where something waits in the first range, or only in the second or third, or in none
abbrev Answers : Actor → List (PoolName × Reserved) → ℕ → Type 0
Answers who pools number = option_and_then head_name (slice_get (queues pools) number) ≡ first_waiting_for who (queues pools)

pub answer_first : (net : Network) (pools : List (PoolName × Reserved)) (flags : List Bool) (who : Actor) (a b a2 b2 a3 b3 number : ℕ) → Booked net pools flags → Reaches net who a b a2 b2 a3 b3 → FirstWithin a b (marks pools) (Some number) → Answers who pools number
answer_first net pools flags who a b a2 b2 a3 b3 number book reach (from, to, mark, least) =
    let one = reach.one in
    let two = reach.two in
    let three = reach.three in
    first_for who pools number mark (λ pool at. reach.first number pool.0 (name_of net pools flags number pool book at) from to)
    (λ k pool below at own. elim (reach.others k pool.0 (name_of net pools flags k pool book at) own) [
      | inl (lower, upper) ↦ least k lower below
      | inr (inl (lower, upper)) ↦ absurd (omega arith)
      | inr (inr (lower, upper)) ↦ absurd (omega arith)
    ])

pub answer_second : (net : Network) (pools : List (PoolName × Reserved)) (flags : List Bool) (who : Actor) (a b a2 b2 a3 b3 number : ℕ) → Booked net pools flags → Reaches net who a b a2 b2 a3 b3 → FirstWithin a b (marks pools) None → FirstWithin a2 b2 (marks pools) (Some number) → Answers who pools number
answer_second net pools flags who a b a2 b2 a3 b3 number book reach none (from, to, mark, least) =
    let one = reach.one in
    let two = reach.two in
    let three = reach.three in
    first_for who pools number mark (λ pool at. reach.second number pool.0 (name_of net pools flags number pool book at) from to)
    (λ k pool below at own. elim (reach.others k pool.0 (name_of net pools flags k pool book at) own) [
      | inl (lower, upper) ↦ none k lower upper
      | inr (inl (lower, upper)) ↦ least k lower below
      | inr (inr (lower, upper)) ↦ absurd (omega arith)
    ])

pub answer_third : (net : Network) (pools : List (PoolName × Reserved)) (flags : List Bool) (who : Actor) (a b a2 b2 a3 b3 number : ℕ) → Booked net pools flags → Reaches net who a b a2 b2 a3 b3 → FirstWithin a b (marks pools) None → FirstWithin a2 b2 (marks pools) None → FirstWithin a3 b3 (marks pools) (Some number) → Answers who pools number
answer_third net pools flags who a b a2 b2 a3 b3 number book reach none none2 (from, to, mark, least) =
    first_for who pools number mark (λ pool at. reach.third number pool.0 (name_of net pools flags number pool book at) from to)
    (λ k pool below at own. elim (reach.others k pool.0 (name_of net pools flags k pool book at) own) [
      | inl (lower, upper) ↦ none k lower upper
      | inr (inl (lower, upper)) ↦ none2 k lower upper
      | inr (inr (lower, upper)) ↦ least k lower below
    ])

pub answer_none : (net : Network) (pools : List (PoolName × Reserved)) (flags : List Bool) (who : Actor) (a b a2 b2 a3 b3 : ℕ) → Booked net pools flags → Reaches net who a b a2 b2 a3 b3 → FirstWithin a b (marks pools) None → FirstWithin a2 b2 (marks pools) None → FirstWithin a3 b3 (marks pools) None → first_waiting_for who (queues pools) ≡ None
answer_none net pools flags who a b a2 b2 a3 b3 book reach none none2 none3 =
    none_for who pools (λ k pool at own. elim (reach.others k pool.0 (name_of net pools flags k pool book at) own) [
      | inl (lower, upper) ↦ none k lower upper
      | inr (inl (lower, upper)) ↦ none2 k lower upper
      | inr (inr (lower, upper)) ↦ none3 k lower upper
    ])

-- ---- nothing waits

pub quiet_marks : (pools : List (PoolName × Reserved)) → All (λ flag. flag ≡ false) (marks pools) ↔ IsQuiet (queues pools)
quiet_marks pools = (
  λ none. All-map (λ (pool : PoolName × Queue). pool.1.items ≡ []) (λ (pool : PoolName × Reserved). (pool.0, pool.1.queue)) pools
      (All-weaker (λ (pool : PoolName × Reserved). waits pool.1.queue ≡ false) (λ (pool : PoolName × Reserved). pool.1.queue.items ≡ []) (λ pool fails. no_waiting_item pool.1.queue fails) pools
      (all_unmapped (λ flag. flag ≡ false) (λ (pool : PoolName × Reserved). waits pool.1.queue) pools none)),
  λ quiet. All-map (λ flag. flag ≡ false) (λ (pool : PoolName × Reserved). waits pool.1.queue) pools
      (All-weaker (λ (pool : PoolName × Reserved). pool.1.queue.items ≡ []) (λ (pool : PoolName × Reserved). waits pool.1.queue ≡ false) (λ pool fails. no_item_waits pool.1.queue fails) pools
      (all_unmapped (λ (pool : PoolName × Queue). pool.1.items ≡ []) (λ (pool : PoolName × Reserved). (pool.0, pool.1.queue)) pools quiet)),
)
