use Rattle.std.proofs.Common.{◌≡◌, ◌++◌}
use Rattle.pool_book.specs.Blocks.{app_names}
use Rattle.pool_book.proofs.all_names.put_all_apps.Given as goal

abbrev pub invariant-loop-c : goal.invariant-loop-c
invariant-loop-c l = l.all ≡ l.initial.all ++ app_names 0 l.switches l.c
