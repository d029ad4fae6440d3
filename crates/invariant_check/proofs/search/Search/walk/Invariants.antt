-- The nodes of the frames so far were added.
use Rattle.std.proofs.Common.{◌≡◌, map, take}
use Rattle.invariant_check.specs.Stop.{node_at}
use Rattle.invariant_check.proofs.search.Search.walk.Given as goal

abbrev pub invariant-loop-frame : goal.invariant-loop-frame
invariant-loop-frame l = l.nodes ≡ map (λ frame. node_at l.class.header frame.stop) (take l.frame-index l.self.below.items)
