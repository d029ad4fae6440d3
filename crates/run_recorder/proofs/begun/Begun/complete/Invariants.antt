use Rattle.std.proofs.Common.{◌-◌, length}
use Rattle.run_recorder.proofs.RestGoes.{GoesOn}
use Rattle.run_recorder.proofs.begun.Begun.complete.Given as goal

abbrev pub invariant-loop-begun : goal.invariant-loop-begun
invariant-loop-begun g l = GoesOn g.C.Controller.react g.C.Controller.start l.fn.self l.begun l.number

abbrev pub decreases-loop-begun : goal.decreases-loop-begun
decreases-loop-begun g l = l.begun.setup.limits.max_events - length l.begun.entries
