use Rattle.event_machine.proofs.Lines.{stays_due}
use Rattle.event_machine.proofs.laws.a_line_stays_due.Goals as goal

pub returns : goal.returns
returns g c = stays_due g.C.Controller.react g.C.Controller.start
