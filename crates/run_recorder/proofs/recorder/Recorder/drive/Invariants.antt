use Rattle.std.proofs.Common.{◌-◌, length}
use Rattle.run_recorder.proofs.Leaving.{IsDriven, rounds_left}
use Rattle.run_recorder.specs.Answers.{IsPartOf}
use Rattle.run_recorder.specs.Recorder.{recorded}
use Rattle.run_recorder.proofs.recorder.Recorder.drive.Given as goal

-- the worker has gone round, and may go on
abbrev pub invariant-loop-vain : goal.invariant-loop-vain
invariant-loop-vain g l = record {
  part : IsPartOf (recorded l.self) l.part;
  driven : IsDriven g.C.Controller.react g.C.Controller.start (g.G.Gate.passes l.fn.gate) (g.G.Gate.passes l.gate) l.fn.part l.part l.errand l.vain;
}

-- there is room for so many entries more, and it has so many rounds in vain before it
abbrev pub decreases-loop-vain : goal.decreases-loop-vain
decreases-loop-vain g l = rounds_left (l.part.setup.limits.max_events - length l.part.view.seen) l.self.setup.now.limits.patience (l.self.setup.now.limits.patience - l.vain)
