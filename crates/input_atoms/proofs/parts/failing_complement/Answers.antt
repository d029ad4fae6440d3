-- Of two parts each is the list without the other.
use Rattle.input_atoms.proofs.Stepping.{complements_of_two}
use Rattle.input_atoms.proofs.parts.failing_complement.Goals as goal

pub returns-then-parts-eq2-clause-found : goal.returns-then-parts-eq2-clause-found
returns-then-parts-eq2-clause-found g c = complements_of_two (g.P.Probe.fails_at c.args.probe.now) c.args.list.now c.args.parts c.if-parts-eq2.true c.requires.none
