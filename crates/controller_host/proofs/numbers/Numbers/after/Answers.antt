-- The numbers after messages that were numbered are those of the numbering.
use Rattle.std.proofs.Common.{◌≡◌, ◌∙◌, List, ap, take_all}
use Rattle.controller_host.specs.Numbering.{cookie_past, xid_past}
use Rattle.controller_host.proofs.Past.{cookie_is_past, xid_is_past}
use Rattle.controller_host.proofs.numbers.Numbers.after.Goals as goal

pub returns-clause-xid : goal.returns-clause-xid
returns-clause-xid c = c.loop-one.invariant.xid ∙ ap (xid_past c.args.self.xid) (take_all c.loop-one.one-index c.args.sent.now c.loop-one-test.false)

pub returns-clause-cookie : goal.returns-clause-cookie
returns-clause-cookie c = c.loop-one.invariant.cookie ∙ ap (cookie_past c.args.self.cookie) (take_all c.loop-one.one-index c.args.sent.now c.loop-one-test.false)

pub returns-clause-own_xid : goal.returns-clause-own_xid
returns-clause-own_xid c = λ messages same. returns-clause-xid c ∙ ap (xid_past c.args.self.xid) same ∙ xid_is_past c.args.self.xid c.args.self.cookie messages

pub returns-clause-own_cookie : goal.returns-clause-own_cookie
returns-clause-own_cookie c = λ messages same. returns-clause-cookie c ∙ ap (cookie_past c.args.self.cookie) same ∙ cookie_is_past c.args.self.xid c.args.self.cookie messages
