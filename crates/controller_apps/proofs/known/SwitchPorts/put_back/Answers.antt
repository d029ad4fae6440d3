-- The address's entry is as it was.
use Rattle.std.proofs.Common.{◌∙◌, ap, sym}
use Rattle.std.specs.FinMap.{insert, remove}
use Rattle.controller_apps.specs.Ports.{AtSwitch}
use Rattle.controller_apps.proofs.Tables.{switch_written, view_removed}
use Rattle.controller_apps.proofs.Undone.{put_again, removed_again, was_put}
use Rattle.controller_apps.proofs.known.SwitchPorts.put_back.Goals as goal

pub returns-in-None : goal.returns-in-None
returns-in-None c = λ there port put before.
    view_removed c.self.inside.ports c.remove.new.self c.args.address c.remove.ensures.updates ∙ ap (λ (at : AtSwitch). remove at c.args.address) (c.self.view_is ∙ put)
    ∙ removed_again there c.args.address port (sym c.in-None.is ∙ before)

pub returns-in-Some-get_mut : goal.returns-in-Some-get_mut
returns-in-Some-get_mut c = λ there port put before.
    switch_written c.self.inside.ports (c.get_mut.follows.lender c.in-Some.port) c.args.self.now c.args.address c.in-Some-get_mut.now.now c.in-Some.port
    c.self.view_is c.in-Some-get_mut.ensures.value (c.get_mut.follows.holds c.in-Some.port)
    ∙ ap (λ (at : AtSwitch). insert at c.args.address c.in-Some.port) put ∙ put_again there c.args.address port c.in-Some.port (sym c.in-Some.is ∙ before)

pub returns-in_default : goal.returns-in_default
returns-in_default c = λ there port put before. absurd (was_put c.self.inside.ports c.args.self.now there c.args.address port c.self.view_is c.in_default.ensures.value put)
