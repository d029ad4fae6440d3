-- Pools by their names: what waits in each, and what a change to one of them leaves.
use Rattle.std.specs.Prelude.{◌≡◌, ℕ, ◌+◌, ◌≤◌, List, [], map, filter, filter_map, slice_get, All, Option, Some, None, option_map, unwrap_or, max, if◌then◌else◌}
use Rattle.message_pools.specs.Queue.{Queue, Reserved, empty_queue, head_of}
use Rattle.pool_book.specs.declared.actor.Actor.{Actor}
use Rattle.pool_book.specs.declared.name.PoolName.{PoolName}
use Rattle.pool_book.specs.Names.{is_same, is_same_actor, names, taker}

-- all pools with their names, in order
abbrev pub Named : Type 0
Named = List (PoolName × Queue)

-- all pools, and nothing waits
abbrev pub empty_pools : List ℕ → ℕ → ℕ → Named
empty_pools ports controllers hosts = map (λ name. (name, empty_queue)) (names ports controllers hosts)

-- the pool of a name, if there is one
abbrev pub pool_of : {A : Type 0} → PoolName → List (PoolName × A) → Option A
pool_of name pools = slice_get (filter_map (λ pool. if is_same name pool.0 then Some pool.1 else None) pools) 0

-- the pools with the one of a name put through a change
abbrev pub changed : {A : Type 0} → PoolName → (A → A) → List (PoolName × A) → List (PoolName × A)
changed name change pools = map (λ pool. if is_same name pool.0 then (pool.0, change pool.1) else pool) pools

-- the pools in which something waits, in order, with the number of the first item
abbrev pub waiting : Named → List (PoolName × ℕ)
waiting pools = filter_map (λ pool. option_map (λ head. (pool.0, head.0)) (head_of pool.1)) pools

-- the first of them
abbrev pub first_waiting : Named → Option (PoolName × ℕ)
first_waiting pools = slice_get (waiting pools) 0

-- the first of them from which an actor takes
abbrev pub first_waiting_for : Actor → Named → Option (PoolName × ℕ)
first_waiting_for who pools = slice_get (filter (λ pool. is_same_actor (taker pool.0) who) (waiting pools)) 0

-- nothing waits anywhere
abbrev pub IsQuiet : Named → Type 0
IsQuiet pools = All (λ pool. pool.1.items ≡ []) pools

-- ---- room

-- the pools without their room
abbrev pub queues : List (PoolName × Reserved) → Named
queues pools = map (λ pool. (pool.0, pool.1.queue)) pools

-- for how many items more there is room in a pool
abbrev pub room_of : PoolName → List (PoolName × Reserved) → ℕ
room_of name pools = unwrap_or (option_map (λ pool. pool.spare) (pool_of name pools)) 0

-- each pool has at least as much room as before, and the one of a name has so much more
abbrev pub HasRoomFor : PoolName → ℕ → List (PoolName × Reserved) → List (PoolName × Reserved) → Type 0
HasRoomFor name more before after = (other : PoolName) → room_of other before + (if is_same name other then more else 0) ≤ room_of other after

-- each pool has at least as much room as before, but the one of a name may have so much less
abbrev pub UsesRoom : PoolName → ℕ → List (PoolName × Reserved) → List (PoolName × Reserved) → Type 0
UsesRoom name used before after = (other : PoolName) → room_of other before ≤ room_of other after + (if is_same name other then used else 0)

-- no pool has more room than before, but the one of a name may have so much in all
abbrev pub HasRoomUpTo : PoolName → ℕ → List (PoolName × Reserved) → List (PoolName × Reserved) → Type 0
HasRoomUpTo name most before after = (other : PoolName) → room_of other after ≤ max (room_of other before) (if is_same name other then most else 0)
