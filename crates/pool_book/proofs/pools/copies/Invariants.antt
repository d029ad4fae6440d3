use Rattle.std.proofs.Common.{◌≡◌, take}
use Rattle.pool_book.specs.Pools.{queues}
use Rattle.pool_book.proofs.pools.copies.Given as goal

abbrev pub invariant-loop-name : goal.invariant-loop-name
invariant-loop-name l = queues l.copies ≡ queues (take l.name-index l.pools)
