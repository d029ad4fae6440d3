use Rattle.event_machine.proofs.Lines.{inputs_within}
use Rattle.event_machine.proofs.laws.inputs_are_lines.Goals as goal

pub returns : goal.returns
returns g c = inputs_within g.C.Controller.react g.C.Controller.start
