use Rattle.std.proofs.Common.{rules, of_calls}
use Rattle.run_recorder.specs.AtOnce.{HasServed}
use Rattle.run_recorder.specs.declared.at_once.Stint.{Stint}
use Rattle.run_recorder.proofs.Called.{have_told}
use Rattle.run_recorder.proofs.at_once.serve_all.Goals as goal

pub returns : goal.returns
returns g c = have_told _ _ (λ (old new : Stint g.row.C.Denot) (before now : g.row.G.Denot). HasServed g.C.Controller.react g.C.Controller.start (g.G.Gate.passes before) (g.G.Gate.passes now) old new)
    (λ work partner work_after partner_after post. search (rules, of_calls))
    c.args.stints.items c.worked.result.items c.args.gates.now c.worked.new.partners c.worked.ensures
