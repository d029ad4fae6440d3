-- The switch is looked up, and the address in what is known there.
use Rattle.std.proofs.Common.{◌∙◌, Some, None, ap, option_map}
use Rattle.std.specs.FinMap.{get}
use Rattle.controller_apps.specs.Ports.{AtSwitch}
use Rattle.controller_apps.proofs.Tables.{there}
use Rattle.controller_apps.proofs.known.KnownPorts.entry.Goals as goal

pub returns-in_err-there : goal.returns-in_err-there
returns-in_err-there c = c.from_residual.ensures ∙ ap (option_map (λ (at : AtSwitch). get at c.args.address)) (there c.self.inside.switches c.args.self.now c.args.s None c.self.view_is c.in_err-there.ensures.value)

pub returns : goal.returns
returns c = ap Some c.port.ensures ∙ ap (option_map (λ (at : AtSwitch). get at c.args.address)) (there c.self.inside.switches c.args.self.now c.args.s (Some c.in_ok-there.there.now) c.self.view_is c.in_ok-there.ensures.value)
