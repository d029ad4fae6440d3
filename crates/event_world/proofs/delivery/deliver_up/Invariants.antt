use Rattle.std.proofs.Common.{◌≡◌, ◌≤◌, filter_map, length, Some}
use Rattle.std.specs.Prelude.{IsSome}
use Rattle.std.specs.Vec.Iter.{into_iter_items, into_iter_len}
use Rattle.message_pools.specs.declared.item.Item.TheVariants.{Message}
use Rattle.pool_book.specs.Pools.{pool_of, queues, room_of}
use Rattle.event_world.specs.Mail.{addressed, with_mail}
use Rattle.event_world.specs.Room.{CanNumber}
use Rattle.event_world.proofs.delivery.deliver_up.Given as goal

-- the pools with the messages that are left put into the one are those with all, and it has room for them
abbrev pub invariant-loop-message : goal.invariant-loop-message
invariant-loop-message l = record {
  left : into_iter_len l.message-iterator ≡ length (into_iter_items l.message-iterator);
  room : IsSome (pool_of l.name l.pools) → length (into_iter_items l.message-iterator) ≤ room_of l.name l.pools;
  numbers : CanNumber (length (into_iter_items l.message-iterator)) (queues l.pools);
  queues : with_mail (filter_map (λ message. addressed (Some l.name) (Message message)) (into_iter_items l.message-iterator)) (queues l.pools)
      ≡ with_mail (filter_map (λ message. addressed (Some l.name) (Message message)) l.fn.up) (queues l.fn.pools);
}
