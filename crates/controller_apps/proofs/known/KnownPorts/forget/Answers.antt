-- The switch's entry is taken out.
use Rattle.std.proofs.Common.{◌∙◌, ap}
use Rattle.controller_apps.specs.Ports.{without_switch}
use Rattle.controller_apps.proofs.Tables.{view_removed}
use Rattle.controller_apps.proofs.known.KnownPorts.forget.Goals as goal

pub returns : goal.returns
returns c = view_removed c.self.inside.switches c.remove.new.self c.args.s c.remove.ensures.updates ∙ ap (without_switch c.args.s) c.self.view_is
