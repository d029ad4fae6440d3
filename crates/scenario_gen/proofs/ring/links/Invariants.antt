use Rattle.std.proofs.Common.{◌≡◌, map}
use Rattle.std.specs.List.{range_with_len}
use Rattle.scenario_gen.specs.Ring.{link_of}
use Rattle.scenario_gen.proofs.ring.links.Given as goal

abbrev pub invariant-loop-s : goal.invariant-loop-s
invariant-loop-s l = l.links ≡ map (link_of l.size) (range_with_len 0 l.s)
