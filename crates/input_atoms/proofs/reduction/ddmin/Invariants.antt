-- What is left of the list is what is left of all, and the test is the one at the start.
use Rattle.std.proofs.Common.{List, ℕ}
use Rattle.std.specs.List.{range_with_len}
use Rattle.input_atoms.specs.Cutting.{AreAlike}
use Rattle.input_atoms.specs.Ddmin.{IsReduced}
use Rattle.input_atoms.specs.Steps.{IsInParts, work}
use Rattle.input_atoms.proofs.reduction.ddmin.Given as goal

abbrev pub invariant-loop-cut : goal.invariant-loop-cut
invariant-loop-cut g l = record {
  cut : IsInParts l.cut.list l.cut.parts;
  back : (left : List ℕ) → IsReduced (g.P.Probe.fails_at l.fn.probe) l.cut.list l.cut.parts left → IsReduced (g.P.Probe.fails_at l.fn.probe) (range_with_len 0 l.n) 2 left;
  same : AreAlike (g.P.Probe.fails_at l.probe) (g.P.Probe.fails_at l.fn.probe);
  again : g.P.Probe.can_ask l.probe;
}

abbrev pub decreases-loop-cut : goal.decreases-loop-cut
decreases-loop-cut g l = work l.cut.list l.cut.parts
