-- What is known at the switch is as it was.
use Rattle.std.proofs.Common.{◌∙◌, ap, sym, unwrap_or}
use Rattle.std.specs.FinMap.{empty, get, insert}
use Rattle.controller_apps.specs.Ports.{without_switch}
use Rattle.controller_apps.proofs.Undone.{removed_again, switch_put_back, unknown, was_put}
use Rattle.controller_apps.proofs.known.KnownPorts.put_back.Goals as goal

pub returns-in-None : goal.returns-in-None
returns-in-None c = λ ports port put before.
    c.forget.ensures ∙ ap (without_switch c.args.s) put
    ∙ removed_again ports c.args.s (insert (unwrap_or (get ports c.args.s) empty) c.args.address port) (unknown (get ports c.args.s) c.args.address (sym c.in-None.is ∙ before))

pub returns-in-Some-get_mut : goal.returns-in-Some-get_mut
returns-in-Some-get_mut c = λ ports port put before.
    switch_put_back c.self.inside.switches (c.get_mut.follows.lender c.put_back.new.self) c.args.self.now ports c.args.s c.args.address port c.in-Some.before c.in-Some-get_mut.there.now c.put_back.new.self
    c.self.view_is c.in-Some-get_mut.ensures.value (c.get_mut.follows.holds c.put_back.new.self) c.put_back.ensures put (sym c.in-Some.is ∙ before)

pub returns-in_default : goal.returns-in_default
returns-in_default c = λ ports port put before.
    absurd (was_put c.self.inside.switches c.args.self.now ports c.args.s (insert (unwrap_or (get ports c.args.s) empty) c.args.address port) c.self.view_is c.in_default.ensures.value put)
