-- The switch is looked up, and the address in what is known there.
use Rattle.std.proofs.Common.{◌∙◌, Some, None, ap, option_and_then}
use Rattle.std.specs.FinMap.{get}
use Rattle.controller_apps.specs.Ports.{AtSwitch}
use Rattle.controller_apps.proofs.Tables.{there}
use Rattle.controller_apps.proofs.known.KnownPorts.port.Goals as goal

pub returns-in_err-get : goal.returns-in_err-get
returns-in_err-get c = c.from_residual.ensures ∙ ap (option_and_then (λ (at : AtSwitch). get at c.args.address)) (there c.self.inside.switches c.args.self.now c.args.s None c.self.view_is c.in_err-get.ensures.value)

pub returns : goal.returns
returns c = c.port.ensures ∙ ap (option_and_then (λ (at : AtSwitch). get at c.args.address)) (there c.self.inside.switches c.args.self.now c.args.s (Some c.in_ok-get.field-0.now) c.self.view_is c.in_ok-get.ensures.value)
