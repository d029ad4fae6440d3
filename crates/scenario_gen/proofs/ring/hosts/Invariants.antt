use Rattle.std.proofs.Common.{◌≡◌, map}
use Rattle.std.specs.List.{range_with_len}
use Rattle.scenario_gen.specs.Ring.{host_of}
use Rattle.scenario_gen.proofs.ring.hosts.Given as goal

abbrev pub invariant-loop-s : goal.invariant-loop-s
invariant-loop-s l = l.hosts ≡ map host_of (range_with_len 0 l.s)
