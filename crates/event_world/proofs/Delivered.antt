-- What taking an item and delivering mail leave of a shared part that is one of a network.
use Rattle.std.proofs.Common.{◌≡◌, ◌∙◌, ℕ, ◌+◌, ◌-◌, ◌*◌, ◌<◌, ◌≤◌, ◌^◌, true, false, cond, List, [], ◌∷◌, length, map, sum, sum_by, All, Option, Some, None, option_map, ap, arith, inl, inr, refl, subst, sym}
use Rattle.std.specs.Option.{option_map_or}
use Rattle.std.proofs.lemmas.Bool.{both_ways, cases_Bool}
use Rattle.std.proofs.lemmas.List.{length_push, map_push}
use Rattle.std.proofs.lemmas.List.Elements.{All-head, All-push, All-tail, All-weaker}
use Rattle.std.proofs.lemmas.List.Sums.{sum_by-cons, sum_by_push}
use Rattle.std.proofs.lemmas.Option.{some_pair_parts}
use Rattle.message_pools.specs.Queue.{Queue, head_of, next_number, rest_of, with_last}
use Rattle.message_pools.specs.declared.item.Item.{Item}
use Rattle.pool_book.specs.Names.{is_same}
use Rattle.pool_book.specs.Pools.{Named, changed, pool_of}
use Rattle.pool_book.specs.declared.name.PoolName.{PoolName}
use Rattle.pool_book.specs.declared.name.PoolName.TheVariants.{Admin, Note}
use Rattle.topology.specs.Status.{is_up}
use Rattle.topology.specs.declared.network.Topology.{Topology}
use Rattle.topology.specs.declared.status.Status.{Status}
use Rattle.event_world.specs.Fits.{IsDeliverable, IsItemOf, IsPool, IsShared, seconds_of, seconds_to, switch_of, waiting_policies, waiting_seconds}
use Rattle.event_world.specs.Mail.{Mail, Shared, with_mail}
use Rattle.event_world.specs.Room.{CanNumber, count_for}
use Rattle.event_world.specs.World.{counted, delivered, first_item, taken}
use Rattle.pool_book.specs.Change.{names_kept, pool_of_changed_other, pool_of_changed_same, same_name}
use Rattle.event_world.proofs.Named.{all_named, same_back}

-- ---- what a pool holds

-- what a pool of a world holds, where its numbers are below a bound: items of its kind, and nothing at a switch that is down
pub record IsHeld (ports : List ℕ) (status : Status) (most : ℕ) (pool : PoolName × Queue) : Type 0 where
  pub items : All (IsItemOf ports pool.0) pool.1.items
  pub numbers : next_number pool.1 ≤ most
  pub down : (s : ℕ) → switch_of pool.0 ≡ Some s → is_up status.switch_up s ≡ false → pool.1.items ≡ []

-- the bound may be higher
pub held_below : (ports : List ℕ) (status : Status) (most more : ℕ) (pool : PoolName × Queue) → most ≤ more → IsHeld ports status most pool → IsHeld ports status more pool
held_below ports status most more pool le h = record { items = h.items; numbers = let n = h.numbers in omega arith; down = h.down }

pub held_pool : (ports : List ℕ) (status : Status) (events : ℕ) (pool : PoolName × Queue) → IsPool ports status events pool → IsHeld ports status (1 + events * (2 ^ 32 - 1)) pool
held_pool ports status events pool h = record { items = h.items; numbers = h.numbers; down = h.down }

pub pool_held : (ports : List ℕ) (status : Status) (most events : ℕ) (pool : PoolName × Queue) → most ≤ 1 + events * (2 ^ 32 - 1) → IsHeld ports status most pool → IsPool ports status events pool
pool_held ports status most events pool le h = record { items = h.items; numbers = let n = h.numbers in omega arith; down = h.down }

-- an item may be put into a pool
pub held_put : (ports : List ℕ) (status : Status) (most : ℕ) (one : PoolName × Item) (pool : PoolName × Queue) → IsDeliverable ports status one → is_same one.0 pool.0 ≡ true → IsHeld ports status most pool → IsHeld ports status (most + 1) (pool.0, with_last pool.1 one.1)
held_put ports status most one pool deliverable same h = record {
  items = All-push (IsItemOf ports pool.0) pool.1.items one.1 h.items (subst (λ (n : PoolName). IsItemOf ports n one.1) (same_name one.0 pool.0 same) deliverable.kind);
  numbers = let n = h.numbers in let l = length_push pool.1.items one.1 in omega arith;
  down = λ s at down. absurd (both_ways (is_up status.switch_up s) down (deliverable.up s (ap switch_of (same_name one.0 pool.0 same) ∙ at)));
}

-- mail may be put into the pools
pub held_mail : (ports : List ℕ) (status : Status) (most : ℕ) (mail : Mail) (pools : Named) → All (IsHeld ports status most) pools → All (IsDeliverable ports status) mail → All (IsHeld ports status (most + length mail)) (with_mail mail pools)
held_mail ports status most [] pools held each = All-weaker (IsHeld ports status most) (IsHeld ports status (most + 0)) (λ pool h. held_below ports status most (most + 0) pool (omega arith) h) pools held
held_mail ports status most (one ∷ mail) pools held each =
    let put = all_named (IsHeld ports status most) (IsHeld ports status (most + 1)) one.0 (λ queue. with_last queue one.1) pools held
    (λ pool h. held_below ports status most (most + 1) pool (omega arith) h)
    (λ pool same h. held_put ports status most one pool (All-head (IsDeliverable ports status) one mail each) same h) in
    let after = changed one.0 (λ queue. with_last queue one.1) pools in
    let all : All (IsHeld ports status ((most + 1) + length mail)) (with_mail mail after) = held_mail ports status (most + 1) mail after put (All-tail (IsDeliverable ports status) one mail each) in
    All-weaker (IsHeld ports status ((most + 1) + length mail)) (IsHeld ports status (most + length (one ∷ mail))) (λ pool h. held_below ports status ((most + 1) + length mail) (most + length (one ∷ mail)) pool (omega arith) h) (with_mail mail after) all

-- mail keeps the names of pools
pub names_with_mail : (mail : Mail) (pools : Named) → map (λ (pool : PoolName × Queue). pool.0) (with_mail mail pools) ≡ map (λ (pool : PoolName × Queue). pool.0) pools
names_with_mail [] pools = refl
names_with_mail (one ∷ mail) pools = names_with_mail mail (changed one.0 (λ queue. with_last queue one.1) pools) ∙ names_kept one.0 (λ queue. with_last queue one.1) pools

-- the first item may be taken out of a pool
rest_held : (ports : List ℕ) (status : Status) (events : ℕ) (name : PoolName) (first : ℕ) (items : List Item) → IsPool ports status events (name, record { first = first; items = items }) → IsPool ports status events (name, rest_of (record { first = first; items = items }))
rest_held ports status events name first [] h = h
rest_held ports status events name first (item ∷ items) h = record {
  items = All-tail (IsItemOf ports name) item items h.items;
  numbers = let n = h.numbers in omega arith;
  down = λ s at down. let none = h.down s at down in absurd cc;
}

-- an item is taken
pub shared_taken : (topology : Topology) (controllers : ℕ) (name : PoolName) (shared : Shared) → IsShared topology controllers shared → IsShared topology controllers (taken name shared)
shared_taken topology controllers name shared fits = record {
  status = fits.status;
  received = fits.received;
  counts = fits.counts;
  names = names_kept name rest_of shared.pools ∙ fits.names;
  pools = let P = IsPool topology.ports shared.status shared.events in
      all_named P P name rest_of shared.pools fits.pools (λ pool h. h) (λ pool same h. rest_held topology.ports shared.status shared.events pool.0 pool.1.first pool.1.items h);
}

-- mail is delivered by an event
pub shared_delivered : (topology : Topology) (controllers inputs : ℕ) (mail : Mail) (shared : Shared) → IsShared topology controllers shared → All (IsDeliverable topology.ports shared.status) mail → length mail < 2 ^ 32 → IsShared topology controllers (counted inputs (delivered mail shared))
shared_delivered topology controllers inputs mail shared fits each few = record {
  status = fits.status;
  received = fits.received;
  counts = All-weaker (λ (count : ℕ). count ≤ shared.events) (λ count. count ≤ shared.events + 1) (λ count few. omega arith) shared.received fits.counts;
  names = names_with_mail mail shared.pools ∙ fits.names;
  pools =
      let most : ℕ = 1 + shared.events * (2 ^ 32 - 1) in
      let held = All-weaker (IsPool topology.ports shared.status shared.events) (IsHeld topology.ports shared.status most) (λ pool h. held_pool topology.ports shared.status shared.events pool h) shared.pools fits.pools in
      All-weaker (IsHeld topology.ports shared.status (most + length mail)) (IsPool topology.ports shared.status (shared.events + 1)) (λ pool h. pool_held topology.ports shared.status (most + length mail) (shared.events + 1) pool (omega arith) h)
      (with_mail mail shared.pools) (held_mail topology.ports shared.status most mail shared.pools held each);
}

-- the pools have numbers left for the mail of an event
pub can_number : (topology : Topology) (controllers more : ℕ) (shared : Shared) → IsShared topology controllers shared → shared.events < 2 ^ 31 → more < 2 ^ 32 → CanNumber more shared.pools
can_number topology controllers more shared fits events few =
    All-weaker (IsPool topology.ports shared.status shared.events) (λ (pool : PoolName × Queue). next_number pool.1 + more ≤ 2 ^ 63) (λ pool h. let n = h.numbers in omega arith) shared.pools fits.pools

-- ---- what waits in a pool

-- how much a pool has, by a measure of its queue; a pool that isn't there has nothing
abbrev pub held : (Queue → ℕ) → PoolName → Named → ℕ
held measure name pools = option_map_or measure (pool_of name pools) 0

-- an item that is put into a pool, if there is one, counts at most so much
measure_put : (measure : Queue → ℕ) (weight : Item → ℕ) (item : Item) (pool : Option Queue) → ((queue : Queue) → measure (with_last queue item) ≤ measure queue + weight item) → option_map_or measure (option_map (λ queue. with_last queue item) pool) 0 ≤ option_map_or measure pool 0 + weight item
measure_put measure weight item None adds = omega arith
measure_put measure weight item (Some queue) adds = adds queue

held_one : (measure : Queue → ℕ) (weight : Item → ℕ) (name : PoolName) (one : PoolName × Item) (pools : Named) → ((queue : Queue) → measure (with_last queue one.1) ≤ measure queue + weight one.1) → held measure name (changed one.0 (λ queue. with_last queue one.1) pools) ≤ held measure name pools + cond (is_same name one.0) (weight one.1) 0
held_one measure weight name one pools adds = elim (cases_Bool (is_same name one.0)) [
  | inl holds ↦
      let here : pool_of name (changed one.0 (λ queue. with_last queue one.1) pools) ≡ option_map (λ queue. with_last queue one.1) (pool_of name pools) =
      subst (λ (n : PoolName). pool_of name (changed n (λ queue. with_last queue one.1) pools) ≡ option_map (λ queue. with_last queue one.1) (pool_of name pools)) (same_name name one.0 holds) (pool_of_changed_same name (λ queue. with_last queue one.1) pools) in
      rw (holds, here) (measure_put measure weight one.1 (pool_of name pools) adds)
  | inr fails ↦
      let other : is_same one.0 name ≡ false = sym (same_back name one.0) ∙ fails in
      let same = pool_of_changed_other one.0 name (λ queue. with_last queue one.1) pools other in
      rw (fails, same) (omega arith)
]

-- mail adds to a pool what its items for that pool count
pub held_after : (measure : Queue → ℕ) (weight : Item → ℕ) (name : PoolName) (mail : Mail) (pools : Named) → ((queue : Queue) (item : Item) → measure (with_last queue item) ≤ measure queue + weight item) → held measure name (with_mail mail pools) ≤ held measure name pools + sum_by (λ one. cond (is_same name one.0) (weight one.1) 0) mail
held_after measure weight name [] pools adds = omega arith
held_after measure weight name (one ∷ mail) pools adds =
    let first = held_one measure weight name one pools (λ queue. adds queue one.1) in
    let rest = held_after measure weight name mail (changed one.0 (λ queue. with_last queue one.1) pools) adds in
    let all = sum_by-cons (λ (one : PoolName × Item). cond (is_same name one.0) (weight one.1) 0) one mail in
    omega arith

-- the seconds of a queue with an item more
seconds_put : (queue : Queue) (item : Item) → sum (map seconds_of (with_last queue item).items) ≤ sum (map seconds_of queue.items) + seconds_of item
seconds_put queue item = rw (map_push seconds_of queue.items item, sum_by_push (λ (n : ℕ). n) (map seconds_of queue.items) (seconds_of item)) (omega arith)

-- a switch is still to be told of no more seconds than before, and those of the mail
pub seconds_delivered : (s : ℕ) (mail : Mail) (pools : Named) → waiting_seconds s (with_mail mail pools) ≤ waiting_seconds s pools + seconds_to s mail
seconds_delivered s mail pools = held_after (λ queue. sum (map seconds_of queue.items)) seconds_of (Note s) mail pools seconds_put

-- a controller is still to hear no more policies than before, and those of the mail
pub policies_delivered : (c : ℕ) (mail : Mail) (pools : Named) → waiting_policies c (with_mail mail pools) ≤ waiting_policies c pools + count_for (Admin c) mail
policies_delivered c mail pools = held_after (λ queue. length queue.items) (λ item. 1) (Admin c) mail pools (λ queue item. let l = length_push queue.items item in omega arith)

-- ---- what is taken from a pool

-- a queue without its first item counts as much less as the item counts
abbrev pub Loses : (Queue → ℕ) → (Item → ℕ) → Type 0
Loses measure weight = (first : ℕ) (item : Item) (rest : List Item) → measure (record { first = first + 1; items = rest }) + weight item ≡ measure (record { first = first; items = item ∷ rest })

-- the first item of a pool, once it is taken, no longer counts
rest_measured : (measure : Queue → ℕ) (weight : Item → ℕ) (number first : ℕ) (item : Item) (items : List Item) → Loses measure weight → head_of (record { first = first; items = items }) ≡ Some (number, item) → measure (rest_of (record { first = first; items = items })) + weight item ≡ measure (record { first = first; items = items })
rest_measured measure weight number first item [] loses e = absurd cc
rest_measured measure weight number first item (head ∷ items) loses e = let same : head ≡ item = (some_pair_parts first number head item e).1 in subst (λ (i : Item). measure (record { first = first + 1; items = items }) + weight i ≡ measure (record { first = first; items = head ∷ items })) same (loses first head items)

-- the same of the pool of a name
pub held_taken : (measure : Queue → ℕ) (weight : Item → ℕ) (name : PoolName) (number : ℕ) (item : Item) (shared : Shared) → Loses measure weight → first_item name shared ≡ Some (number, item) → held measure name (taken name shared).pools + weight item ≡ held measure name shared.pools
held_taken measure weight name number item shared loses first =
    let here = pool_of_changed_same name rest_of shared.pools in
    rw here (of_pool (pool_of name shared.pools) refl) where
      of_pool : (pool : Option Queue) → pool_of name shared.pools ≡ pool → option_map_or measure (option_map rest_of pool) 0 + weight item ≡ option_map_or measure pool 0
      of_pool None e = absurd cc
      of_pool (Some queue) e = rest_measured measure weight number queue.first item queue.items loses (rw e at first)

-- once a notice is taken, its seconds no longer wait
pub seconds_taken : (s number : ℕ) (item : Item) (shared : Shared) → first_item (Note s) shared ≡ Some (number, item) → waiting_seconds s (taken (Note s) shared).pools + seconds_of item ≡ waiting_seconds s shared.pools
seconds_taken s number item shared first =
    held_taken (λ queue. sum (map seconds_of queue.items)) seconds_of (Note s) number item shared (λ first item rest. let all = sum_by-cons (λ (n : ℕ). n) (seconds_of item) (map seconds_of rest) in omega arith) first

-- once a policy is taken, it no longer waits
pub policies_taken : (c number : ℕ) (item : Item) (shared : Shared) → first_item (Admin c) shared ≡ Some (number, item) → waiting_policies c (taken (Admin c) shared).pools + 1 ≡ waiting_policies c shared.pools
policies_taken c number item shared first = held_taken (λ queue. length queue.items) (λ item. 1) (Admin c) number item shared (λ first item rest. omega arith) first

-- a changed queue, if there is one, counts no more
measure_changed : (measure : Queue → ℕ) (change : Queue → Queue) (pool : Option Queue) → ((queue : Queue) → measure (change queue) ≤ measure queue) → option_map_or measure (option_map change pool) 0 ≤ option_map_or measure pool 0
measure_changed measure change None lower = omega arith
measure_changed measure change (Some queue) lower = lower queue

-- a change that adds to no queue adds to no pool
pub held_changed : (measure : Queue → ℕ) (change : Queue → Queue) (other name : PoolName) (pools : Named) → ((queue : Queue) → measure (change queue) ≤ measure queue) → held measure other (changed name change pools) ≤ held measure other pools
held_changed measure change other name pools lower = elim (cases_Bool (is_same name other)) [
  | inl holds ↦
      let here : pool_of other (changed name change pools) ≡ option_map change (pool_of other pools) =
      subst (λ (n : PoolName). pool_of n (changed name change pools) ≡ option_map change (pool_of n pools)) (same_name name other holds) (pool_of_changed_same name change pools) in
      rw here (measure_changed measure change (pool_of other pools) lower)
  | inr fails ↦ let same = pool_of_changed_other name other change pools fails in rw same (omega arith)
]

seconds_fall : (first : ℕ) (items : List Item) → sum (map seconds_of (rest_of (record { first = first; items = items })).items) ≤ sum (map seconds_of items)
seconds_fall first [] = omega arith
seconds_fall first (item ∷ items) = let all = sum_by-cons (λ (n : ℕ). n) (seconds_of item) (map seconds_of items) in omega arith

-- taking from a pool adds nothing to what waits elsewhere
pub seconds_left : (s : ℕ) (name : PoolName) (shared : Shared) → waiting_seconds s (taken name shared).pools ≤ waiting_seconds s shared.pools
seconds_left s name shared = held_changed (λ queue. sum (map seconds_of queue.items)) rest_of (Note s) name shared.pools (λ queue. seconds_fall queue.first queue.items)

policies_fall : (first : ℕ) (items : List Item) → length (rest_of (record { first = first; items = items })).items ≤ length items
policies_fall first [] = omega arith
policies_fall first (item ∷ items) = omega arith

pub policies_left : (c : ℕ) (name : PoolName) (shared : Shared) → waiting_policies c (taken name shared).pools ≤ waiting_policies c shared.pools
policies_left c name shared = held_changed (λ queue. length queue.items) rest_of (Admin c) name shared.pools (λ queue. policies_fall queue.first queue.items)
