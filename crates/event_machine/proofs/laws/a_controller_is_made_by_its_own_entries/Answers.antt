use Rattle.event_machine.proofs.OwnEntries.{controller_made}
use Rattle.event_machine.proofs.laws.a_controller_is_made_by_its_own_entries.Goals as goal

pub returns : goal.returns
returns g c = controller_made g.C.Controller.react g.C.Controller.start
