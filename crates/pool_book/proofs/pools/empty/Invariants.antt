use Rattle.std.proofs.Common.{◌≡◌, map, take}
use Rattle.message_pools.specs.Queue.{empty_queue}
use Rattle.pool_book.specs.Pools.{queues}
use Rattle.pool_book.proofs.pools.empty.Given as goal

abbrev pub invariant-loop-name : goal.invariant-loop-name
invariant-loop-name l = queues l.pools ≡ map (λ name. (name, empty_queue)) (take l.name-index l.names)
