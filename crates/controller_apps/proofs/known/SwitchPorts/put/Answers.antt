-- The address's entry has the port.
use Rattle.std.proofs.Common.{◌∙◌, ap}
use Rattle.std.specs.FinMap.{insert}
use Rattle.controller_apps.specs.Ports.{AtSwitch}
use Rattle.controller_apps.proofs.Tables.{view_updated}
use Rattle.controller_apps.proofs.known.SwitchPorts.put.Goals as goal

pub returns-clause-ok : goal.returns-clause-ok
returns-clause-ok c = view_updated c.self.inside.ports c.insert.new.self c.args.address c.args.port c.in_ok-insert.ensures.updates ∙ ap (λ (at : AtSwitch). insert at c.args.address c.args.port) c.self.view_is
