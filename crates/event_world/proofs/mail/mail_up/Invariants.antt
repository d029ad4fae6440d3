use Rattle.std.proofs.Common.{◌≡◌, ◌++◌, filter_map, length}
use Rattle.std.specs.Vec.Iter.{into_iter_items, into_iter_len}
use Rattle.message_pools.specs.declared.item.Item.TheVariants.{Message}
use Rattle.event_world.specs.Mail.{addressed}
use Rattle.event_world.proofs.mail.mail_up.Given as goal

-- the mail so far, with that of the messages that are left, is all
abbrev pub invariant-loop-message : goal.invariant-loop-message
invariant-loop-message l = record {
  length : into_iter_len l.message-iterator ≡ length (into_iter_items l.message-iterator);
  mail : l.mail ++ filter_map (λ message. addressed l.name (Message message)) (into_iter_items l.message-iterator)
      ≡ filter_map (λ message. addressed l.name (Message message)) l.fn.up;
}
