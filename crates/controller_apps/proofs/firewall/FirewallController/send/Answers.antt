-- What is sent at an item is few.
use Rattle.std.proofs.Common.{arith}
use Rattle.controller_apps.proofs.Joined.{few_sent}
use Rattle.controller_apps.proofs.firewall.FirewallController.send.Goals as goal

pub returns-in-Ok-clause-few : goal.returns-in-Ok-clause-few
returns-in-Ok-clause-few c = let few = few_sent c.args.self.now c.args.item.now c.parts.ensures c.requires.policies in omega arith
