use Rattle.std.proofs.Common.{◌≡◌, ◌++◌, map}
use Rattle.std.specs.List.{range_with_len}
use Rattle.pool_book.specs.declared.name.PoolName.TheVariants.{Pkt}
use Rattle.event_world.proofs.effect.add_ports.Given as goal

-- those of the ports so far are added
abbrev pub invariant-loop-place : goal.invariant-loop-place
invariant-loop-place l = l.names ≡ l.fn.names ++ map (Pkt l.s) (range_with_len 1 l.place)
