-- The outputs so far were added.
use Rattle.std.proofs.Common.{◌≡◌, ◌++◌, map, take}
use Rattle.invariant_check.specs.Stop.{hop_of}
use Rattle.invariant_check.proofs.hops.put_hops.Given as goal

abbrev pub invariant-loop-output : goal.invariant-loop-output
invariant-loop-output l = l.hops ≡ l.fn.hops ++ map (hop_of l.sets) (take l.output-index l.sent)
