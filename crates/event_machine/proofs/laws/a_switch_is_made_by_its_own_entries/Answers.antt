use Rattle.event_machine.proofs.OwnEntries.{last_beginning, switch_made}
use Rattle.event_machine.proofs.laws.a_switch_is_made_by_its_own_entries.Goals as goal

pub returns-clause-state : goal.returns-clause-state
returns-clause-state g c = switch_made g.C.Controller.react g.C.Controller.start

pub returns-clause-beginning : goal.returns-clause-beginning
returns-clause-beginning g c = last_beginning g.C.Controller.react g.C.Controller.start
