use Rattle.causal_replay.proofs.Reached.{Reached}
use Rattle.causal_replay.proofs.replayed.replay.Given as goal

abbrev pub invariant-loop-at : goal.invariant-loop-at
invariant-loop-at g l = Reached g.C.Controller.react g.C.Controller.start g.C.Controller.policies l.setup l.trace.entries l.keep l.at l.replayed.run l.replayed.absent l.replayed.world
