-- No part up to here fails, and the test is the one at the start.
use Rattle.input_atoms.specs.Cutting.{AreAlike, NoneFails, part_of}
use Rattle.input_atoms.proofs.parts.failing_part.Given as goal

abbrev pub invariant-loop-part : goal.invariant-loop-part
invariant-loop-part g l = record { none : NoneFails (g.P.Probe.fails_at l.fn.probe) (part_of l.list l.parts) l.part; same : AreAlike (g.P.Probe.fails_at l.probe) (g.P.Probe.fails_at l.fn.probe); again : g.P.Probe.can_ask l.probe }
