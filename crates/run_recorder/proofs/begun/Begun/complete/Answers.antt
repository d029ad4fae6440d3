use Rattle.std.proofs.Common.{All, refl, subst}
use Rattle.machine_setup.specs.declared.setup.Setup.{Setup}
use Rattle.event_machine.specs.Holding.{IsEntryOf}
use Rattle.run_recorder.proofs.RestGoes.{alone_at_first, goes_more, rest_begins}
use Rattle.run_recorder.proofs.begun.Begun.complete.Goals as goal

pub loop-begun-init : goal.loop-begun-init
loop-begun-init g c = record {
  setup = refl;
  alone = alone_at_first g.C.Controller.react g.C.Controller.start c.args.self.setup c.args.self.entries;
  next = rest_begins c.args.self.entries c.requires;
}

pub loop-begun-preserved : goal.loop-begun-preserved
loop-begun-preserved g c =
    let step = c.in_ok-enter_ruled.ensures in
    goes_more g.C.Controller.react g.C.Controller.start g.C.Controller.policies c.args.self c.loop-begun.begun c.enter_ruled.new.self c.loop-begun.number c.loop-begun.invariant step.begun step.setup step.ok

pub returns-clause-holding : goal.returns-clause-holding
returns-clause-holding g c = subst (λ (s : Setup g.row.C.Denot). All (IsEntryOf s) c.end.result.0.entries) c.loop-begun.invariant.setup c.end.ensures.holding
