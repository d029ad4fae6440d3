use Rattle.std.proofs.Common.{◌≡◌, ◌++◌, map}
use Rattle.std.specs.List.{range_with_len}
use Rattle.pool_book.specs.declared.name.PoolName.TheVariants.{App}
use Rattle.pool_book.proofs.all_names.put_apps.Given as goal

abbrev pub invariant-loop-s : goal.invariant-loop-s
invariant-loop-s l = l.all ≡ l.initial.all ++ map (App l.c) (range_with_len 0 l.s)
