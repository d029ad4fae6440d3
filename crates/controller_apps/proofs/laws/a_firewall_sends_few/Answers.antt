use Rattle.controller_apps.proofs.Joined.{few_sent}
use Rattle.controller_apps.proofs.laws.a_firewall_sends_few.Goals as goal

pub returns : goal.returns
returns c = few_sent
