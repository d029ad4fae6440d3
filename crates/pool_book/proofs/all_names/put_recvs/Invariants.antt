use Rattle.std.proofs.Common.{◌≡◌, ◌++◌, map}
use Rattle.std.specs.List.{range_with_len}
use Rattle.pool_book.specs.declared.name.PoolName.TheVariants.{Recv}
use Rattle.pool_book.proofs.all_names.put_recvs.Given as goal

abbrev pub invariant-loop-h : goal.invariant-loop-h
invariant-loop-h l = l.all ≡ l.initial.all ++ map Recv (range_with_len 0 l.h)
