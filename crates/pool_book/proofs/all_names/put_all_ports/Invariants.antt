use Rattle.std.proofs.Common.{◌≡◌, ◌++◌, take}
use Rattle.pool_book.specs.Blocks.{port_names}
use Rattle.pool_book.proofs.all_names.put_all_ports.Given as goal

abbrev pub invariant-loop-s : goal.invariant-loop-s
invariant-loop-s l = l.all ≡ l.initial.all ++ port_names 0 (take l.s l.ports)
