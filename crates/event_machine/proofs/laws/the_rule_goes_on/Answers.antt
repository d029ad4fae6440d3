use Rattle.event_machine.proofs.OneThread.{rule_goes}
use Rattle.event_machine.proofs.laws.the_rule_goes_on.Goals as goal

pub returns : goal.returns
returns g c = λ setup world fits undone few. rule_goes setup world fits.shared.names undone few
