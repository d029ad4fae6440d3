use Rattle.std.proofs.Common.{◌≡◌, ◌++◌, map}
use Rattle.std.specs.List.{range_with_len}
use Rattle.pool_book.specs.declared.name.PoolName.TheVariants.{Admin}
use Rattle.pool_book.proofs.all_names.put_admins.Given as goal

abbrev pub invariant-loop-c : goal.invariant-loop-c
invariant-loop-c l = l.all ≡ l.initial.all ++ map Admin (range_with_len 0 l.c)
