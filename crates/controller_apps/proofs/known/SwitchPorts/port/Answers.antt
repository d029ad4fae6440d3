-- The address is looked up.
use Rattle.std.proofs.Common.{◌∙◌}
use Rattle.controller_apps.proofs.Tables.{there}
use Rattle.controller_apps.proofs.known.SwitchPorts.port.Goals as goal

pub returns : goal.returns
returns c = there c.self.inside.ports c.args.self.now c.args.address c.copied.result c.self.view_is (c.copied.ensures ∙ c.get.ensures.value)
