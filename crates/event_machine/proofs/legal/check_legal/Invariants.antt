use Rattle.event_machine.proofs.Histories.{Follows}
use Rattle.event_machine.proofs.legal.check_legal.Given as goal

abbrev pub invariant-loop-at : goal.invariant-loop-at
invariant-loop-at g l = Follows g.C.Controller.react g.C.Controller.start g.C.Controller.policies l.setup l.trace.entries l.at l.run.world l.run.numbers
