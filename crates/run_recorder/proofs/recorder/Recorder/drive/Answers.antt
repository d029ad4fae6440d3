use Rattle.std.proofs.Common.{◌+◌, ◌-◌, ap, length, arith}
use Rattle.machine_setup.specs.declared.setup.Setup.{Setup}
use Rattle.turn_book.proofs.Begins.{prefix_length}
use Rattle.run_recorder.proofs.Leaving.{driven_entered, driven_first, driven_vain, left_ended, left_no_memory, left_tired, nearer_by_entry, nearer_in_vain}
use Rattle.run_recorder.proofs.Rounds.{same_on}
use Rattle.run_recorder.proofs.recorder.Recorder.drive.Goals as goal

pub loop-vain-init : goal.loop-vain-init
loop-vain-init g c = record { part = c.requires.part; driven = driven_first g.C.Controller.react g.C.Controller.start _ c.args.part.now _ (c.in-Some.ensures.some) }

pub loop-vain-preserved-in-Entered : goal.loop-vain-preserved-in-Entered
loop-vain-preserved-in-Entered g c =
    let setup = ap (λ (s : Setup g.row.C.Denot). s.limits.patience) c.requires.part.setup in
    let test = c.loop-vain-test.true in
    record {
      part = c.round.ensures.part;
      driven = driven_entered g.C.Controller.react g.C.Controller.start (g.G.Gate.passes c.args.gate.now) (g.G.Gate.passes c.loop-vain.gate) (g.G.Gate.passes c.pass.new.self) c.loop-vain.vain
          c.args.part.now c.loop-vain.part c.round.new.part c.loop-vain.errand c.loop-vain.invariant.driven (omega arith) c.pass.ensures c.round.ensures.same c.in-Entered.next c.in-Entered.ensures.round;
    }

pub loop-vain-smaller-in-Entered : goal.loop-vain-smaller-in-Entered
loop-vain-smaller-in-Entered g c =
    let same = ap (λ (s : Setup g.row.C.Denot). s.limits.max_events) c.round.ensures.same.setup in
    let room = c.known.ensures.room in
    let longer = c.in-Entered.ensures.round.2 in
    nearer_by_entry (c.loop-vain.part.setup.limits.max_events - length c.loop-vain.part.view.seen) (c.round.new.part.setup.limits.max_events - length c.round.new.part.view.seen)
    c.args.self.now.setup.now.limits.patience (c.args.self.now.setup.now.limits.patience - c.loop-vain.vain) (c.args.self.now.setup.now.limits.patience - 0) (omega arith) (omega arith)

pub loop-vain-preserved : goal.loop-vain-preserved
loop-vain-preserved g c =
    let setup = ap (λ (s : Setup g.row.C.Denot). s.limits.patience) c.requires.part.setup in
    let test = c.loop-vain-test.true in
    record {
      part = c.round.ensures.part;
      driven = driven_vain g.C.Controller.react g.C.Controller.start (g.G.Gate.passes c.args.gate.now) (g.G.Gate.passes c.loop-vain.gate) (g.G.Gate.passes c.pass.new.self) c.loop-vain.vain
          c.args.part.now c.loop-vain.part c.round.new.part c.loop-vain.errand c.loop-vain.invariant.driven (omega arith) c.pass.ensures c.round.ensures.same c.in-Vain.next c.in-Vain.ensures.round;
    }

pub loop-vain-smaller : goal.loop-vain-smaller
loop-vain-smaller g c =
    let same = ap (λ (s : Setup g.row.C.Denot). s.limits.max_events) c.round.ensures.same.setup in
    let longer = prefix_length c.loop-vain.part.view.seen c.round.new.part.view.seen c.round.ensures.same.seen in
    let test = c.loop-vain-test.true in
    nearer_in_vain (c.loop-vain.part.setup.limits.max_events - length c.loop-vain.part.view.seen) (c.round.new.part.setup.limits.max_events - length c.round.new.part.view.seen)
    c.args.self.now.setup.now.limits.patience (c.args.self.now.setup.now.limits.patience - c.loop-vain.vain) (c.args.self.now.setup.now.limits.patience - (c.loop-vain.vain + 1)) (omega arith) (omega arith)

pub returns-in-Ended-clause-same : goal.returns-in-Ended-clause-same
returns-in-Ended-clause-same g c = same_on c.args.part.now c.loop-vain.part c.round.new.part c.loop-vain.invariant.driven.same c.round.ensures.same

pub returns-in-Ended-clause-left : goal.returns-in-Ended-clause-left
returns-in-Ended-clause-left g c =
    let setup = ap (λ (s : Setup g.row.C.Denot). s.limits.patience) c.requires.part.setup in
    let test = c.loop-vain-test.true in
    left_ended g.C.Controller.react g.C.Controller.start (g.G.Gate.passes c.args.gate.now) (g.G.Gate.passes c.loop-vain.gate) (g.G.Gate.passes c.pass.new.self) c.loop-vain.vain
    c.args.part.now c.loop-vain.part c.round.new.part c.loop-vain.errand c.loop-vain.invariant.driven (omega arith) c.pass.ensures c.round.ensures.same
    (λ none. none c.in-Some.first c.in-Some.ensures.some) c.in-Ended.place c.in-Ended.ensures.round

pub returns-in-OutOfMemory-clause-same : goal.returns-in-OutOfMemory-clause-same
returns-in-OutOfMemory-clause-same g c = same_on c.args.part.now c.loop-vain.part c.round.new.part c.loop-vain.invariant.driven.same c.round.ensures.same

pub returns-in-OutOfMemory-clause-left : goal.returns-in-OutOfMemory-clause-left
returns-in-OutOfMemory-clause-left g c =
    let setup = ap (λ (s : Setup g.row.C.Denot). s.limits.patience) c.requires.part.setup in
    let test = c.loop-vain-test.true in
    left_no_memory g.C.Controller.react g.C.Controller.start (g.G.Gate.passes c.args.gate.now) (g.G.Gate.passes c.loop-vain.gate) (g.G.Gate.passes c.pass.new.self) c.loop-vain.vain
    c.args.part.now c.loop-vain.part c.round.new.part c.loop-vain.errand c.loop-vain.invariant.driven (omega arith) c.pass.ensures c.round.ensures.same
    (λ none. none c.in-Some.first c.in-Some.ensures.some) c.in-OutOfMemory.ensures.round

pub returns-clause-left : goal.returns-clause-left
returns-clause-left g c =
    let setup = ap (λ (s : Setup g.row.C.Denot). s.limits.patience) c.requires.part.setup in
    let test = c.loop-vain-test.false in
    left_tired g.C.Controller.react g.C.Controller.start (g.G.Gate.passes c.args.gate.now) (g.G.Gate.passes c.loop-vain.gate) c.loop-vain.vain c.args.part.now c.loop-vain.part c.loop-vain.errand
    c.loop-vain.invariant.driven (omega arith) (λ none. none c.in-Some.first c.in-Some.ensures.some)
