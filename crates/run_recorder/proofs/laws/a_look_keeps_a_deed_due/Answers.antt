use Rattle.run_recorder.proofs.Keeping.{look_keeps_due}
use Rattle.run_recorder.proofs.laws.a_look_keeps_a_deed_due.Goals as goal

pub returns : goal.returns
returns g c = look_keeps_due g.C.Controller.react g.C.Controller.start
