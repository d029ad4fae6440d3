-- Room in the pools for mail that is to come.
use Rattle.std.specs.Prelude.{ℕ, ◌+◌, ◌^◌, ◌≤◌, List, count_by, All, IfSome, IsSome, Option}
use Rattle.message_pools.specs.Queue.{Reserved, next_number}
use Rattle.pool_book.specs.Names.{is_same}
use Rattle.pool_book.specs.Pools.{Named, pool_of, room_of}
use Rattle.pool_book.specs.declared.name.PoolName.{PoolName}
use Rattle.event_world.specs.Mail.{Mail}

-- how many items of the mail are for a pool
abbrev pub count_for : PoolName → Mail → ℕ
count_for name mail = count_by (λ one. is_same name one.0) mail

-- each pool has room for what comes to it
abbrev pub HasRoomForMail : Mail → List (PoolName × Reserved) → Type 0
HasRoomForMail mail pools = (name : PoolName) → IsSome (pool_of name pools) → count_for name mail ≤ room_of name pools

-- each pool can number so many items more
abbrev pub CanNumber : ℕ → Named → Type 0
CanNumber more pools = All (λ pool. next_number pool.1 + more ≤ 2 ^ 63) pools

-- no pool has less room than before
abbrev pub KeepsRoom : List (PoolName × Reserved) → List (PoolName × Reserved) → Type 0
KeepsRoom before after = (name : PoolName) → room_of name before ≤ room_of name after

-- if messages come to a pool, and it is there, it has room for so many
abbrev pub HasRoomUp : Option PoolName → ℕ → List (PoolName × Reserved) → Type 0
HasRoomUp up most pools = IfSome up (λ app. IsSome (pool_of app pools) → most ≤ room_of app pools)
