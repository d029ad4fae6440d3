-- A step to a complement, and a step to more parts.
use Rattle.input_atoms.proofs.Stepping.{goes_to_complement, goes_finer}
use Rattle.std.proofs.Common.{arith, rules}
use Rattle.input_atoms.proofs.reduction.Cut.next.Goals as goal

pub returns-in-Some-2-clause-next : goal.returns-in-Some-2-clause-next
returns-in-Some-2-clause-next g c = goes_to_complement (g.P.Probe.fails_at c.args.probe.now) c.args.self.now.list c.args.self.now.parts c.requires.cut c.in-Some-2.list (g.P.Probe.fails_at c.failing_part.new.probe) c.max.result (omega arith) c.failing_part.ensures.same c.max.ensures (search rules) (search rules)

pub returns-clause-next : goal.returns-clause-next
returns-clause-next g c = goes_finer (g.P.Probe.fails_at c.args.probe.now) c.args.self.now.list c.args.self.now.parts c.requires.cut c.in_ok-list-3.list (g.P.Probe.fails_at c.failing_part.new.probe) c.min.result c.in_ok-list-3.ensures (omega arith) c.failing_part.ensures.same (rw c.len-size.ensures at c.min.ensures) (search rules) (search rules) (search rules)
