use Rattle.std.proofs.Common.{◌≡◌, ℕ, ◌++◌, Bool, filter_map, Option, Some, None, if◌then◌else◌}
use Rattle.std.specs.Prelude.{option_and_then}
use Rattle.std.specs.List.{range_with_len}
use Rattle.message_pools.specs.declared.item.Item.{Item}
use Rattle.of10_messages.specs.declared.notice.Notice.TheVariants.{Port}
use Rattle.pool_book.specs.declared.name.PoolName.{PoolName}
use Rattle.topology.specs.Network.{far_end}
use Rattle.topology.specs.declared.network.Topology.{Topology}
use Rattle.topology.specs.declared.status.Status.{Status}
use Rattle.event_world.specs.Inputs.{is_open, tells}
use Rattle.event_world.proofs.effect.Effect.tell_neighbours.Given as goal

-- what the switch at a far end is told
abbrev pub told : Status → Bool → Option (ℕ × ℕ × ℕ) → Option (PoolName × Item)
told status down far = option_and_then (λ far. if is_open status far then Some (tells far.1 (Port far.2 down)) else None) far

abbrev pub told_at : Topology → Status → ℕ → Bool → ℕ → Option (PoolName × Item)
told_at topology status s down port = told status down (far_end topology s port)

-- the far ends of the ports so far are told, and nothing else changes
abbrev pub invariant-loop-place : goal.invariant-loop-place
invariant-loop-place l = record {
  status : l.self.status ≡ l.fn.self.status;
  flushes : l.self.flushes ≡ l.fn.self.flushes;
  mail : l.self.mail ≡ l.fn.self.mail ++ filter_map (told_at l.topology l.fn.self.status l.s l.down) (range_with_len 1 l.place);
}
