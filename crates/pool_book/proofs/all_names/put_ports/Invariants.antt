use Rattle.std.proofs.Common.{◌≡◌, ◌++◌, map}
use Rattle.std.specs.List.{range_with_len}
use Rattle.pool_book.specs.declared.name.PoolName.TheVariants.{Pkt}
use Rattle.pool_book.proofs.all_names.put_ports.Given as goal

abbrev pub invariant-loop-before : goal.invariant-loop-before
invariant-loop-before l = l.all ≡ l.initial.all ++ map (Pkt l.s) (range_with_len 1 l.before)
