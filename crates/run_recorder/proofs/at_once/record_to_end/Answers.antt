use Rattle.std.proofs.Common.{◌≡◌, ◌++◌, All, arith, drop, length-take, refl, subst, sym, take}
use Rattle.std.proofs.lemmas.List.{take-append-drop}
use Rattle.machine_setup.specs.declared.setup.Setup.{Setup}
use Rattle.event_world.specs.Fits.{Fits}
use Rattle.event_machine.specs.Holding.{IsEntryOf}
use Rattle.event_machine.specs.Legal.{IsLegalRun, world_after}
use Rattle.run_recorder.specs.Answers.{AreDealt}
use Rattle.run_recorder.specs.Rest.{RestIsRuled}
use Rattle.run_recorder.proofs.Passes.{AreRecorded, one_thread, tells_of}
use Rattle.run_recorder.specs.Recorder.{recorded}
use Rattle.run_recorder.proofs.at_once.record_to_end.Given.{Over}
use Rattle.run_recorder.proofs.at_once.record_to_end.Goals as goal
use Rattle.run_recorder.proofs.at_once.record_to_end.Goals.{In_ok-trace}

pub returns-clause-ruled : goal.returns-clause-ruled
returns-clause-ruled g c =
    subst (λ (setup : Setup g.row.C.Denot). RestIsRuled g.C.Controller.react g.C.Controller.start setup c.in_ok-trace.trace.entries) c.in_ok-recorder.ensures.setup c.in_ok-trace.ensures.ruled

pub returns-clause-holding : goal.returns-clause-holding
returns-clause-holding g c = subst (λ (setup : Setup g.row.C.Denot). All (IsEntryOf setup) c.in_ok-trace.trace.entries) c.in_ok-recorder.ensures.setup c.in_ok-trace.ensures.holding

module _ (g : Over) (c : In_ok-trace g) where
  all : AreRecorded g.C.Controller.react g.C.Controller.start g.G.Gate.passes (recorded c.in_ok-recorder.recorder) c.args.setup.now (take c.args.setup.now.limits.workers c.args.gates.now) c.served.new.gates
      c.in_ok-recorder.parts c.in_ok-parts.parts c.in_ok-trace.trace
  all = record {
    setup_is = c.in_ok-recorder.ensures.setup;
    workers_is = c.in_ok-recorder.ensures.workers;
    parts_are = c.in_ok-recorder.ensures.parts;
    after_are = c.in_ok-parts.ensures.parts;
    idle = c.in_ok-recorder.ensures.idle;
    away = c.in_ok-parts.ensures.served;
    as_many = let enough = c.requires.gates in let same = c.in_ok-recorder.ensures.workers in let cut = length-take c.args.setup.now.limits.workers c.args.gates.now in omega arith;
    legal = subst (λ (setup : Setup g.row.C.Denot). IsLegalRun g.C.Controller.react g.C.Controller.start setup c.in_ok-trace.trace) c.in_ok-recorder.ensures.setup c.in_ok-trace.ensures.legal;
    own = c.in_ok-trace.ensures.own;
    seen = c.in_ok-trace.ensures.seen;
  }

pub returns-clause-passes : goal.returns-clause-passes
returns-clause-passes g c =
    let workers = c.args.setup.now.limits.workers in
    let gates = c.args.gates.now in
    tells_of g.C.Controller.react g.C.Controller.start g.G.Gate.passes (recorded c.in_ok-recorder.recorder) c.args.setup.now (take workers gates) c.served.new.gates
    c.in_ok-recorder.parts c.in_ok-parts.parts c.in_ok-trace.trace gates (c.served.new.gates ++ drop workers gates) (drop workers gates) (drop workers gates)
    (all g ((goal.at.returns-clause-passes g c).In_ok-trace)) (sym (take-append-drop workers gates)) refl refl

pub returns-clause-alone : goal.returns-clause-alone
returns-clause-alone g c =
    let of_setup = subst (λ (setup : Setup g.row.C.Denot). AreDealt setup c.in_ok-recorder.recorder.workers c.in_ok-trace.trace.entries) c.in_ok-recorder.ensures.setup c.in_ok-trace.ensures.dealt in
    one_thread g.C.Controller.react g.C.Controller.start g.G.Gate.passes (recorded c.in_ok-recorder.recorder) c.args.setup.now (take c.args.setup.now.limits.workers c.args.gates.now) c.served.new.gates
    c.in_ok-recorder.parts c.in_ok-parts.parts c.in_ok-trace.trace (all g ((goal.at.returns-clause-alone g c).In_ok-trace)) c.requires.setup.bounds.workers.0
    (subst (λ n. AreDealt c.args.setup.now n c.in_ok-trace.trace.entries) c.in_ok-recorder.ensures.workers of_setup) (returns-clause-ruled g c)

pub returns-clause-world : goal.returns-clause-world
returns-clause-world g c =
    subst (λ (setup : Setup g.row.C.Denot). c.in_ok-trace.world ≡ world_after g.C.Controller.react g.C.Controller.start setup c.in_ok-trace.trace) c.in_ok-recorder.ensures.setup c.in_ok-trace.ensures.world

pub returns-clause-fits : goal.returns-clause-fits
returns-clause-fits g c = subst (λ (setup : Setup g.row.C.Denot). Fits g.C.Controller.policies setup c.in_ok-trace.world) c.in_ok-recorder.ensures.setup c.in_ok-trace.ensures.fits
