-- A packet to its own source goes home, and another one where its destination is known.
use Rattle.std.proofs.Common.{◌∙◌, ap}
use Rattle.controller_apps.specs.Learning.{Learner}
use Rattle.controller_apps.specs.Ports.{port_at}
use Rattle.controller_apps.proofs.Tables.{way_home, way_known}
use Rattle.controller_apps.proofs.learning.Learning.way_of.Goals as goal

pub returns-then-header : goal.returns-then-header
returns-then-header c = rw (← c.header-header.ensures.value) (way_home c.args.s c.header-header.result.dl_src c.args.seen.now.in_port c.header-header.result.dl_dst c.args.self.now.known c.if-header.true)

pub returns : goal.returns
returns c =
    let header = c.header-header.result in
    rw (← c.header-header.ensures.value) (
    c.port.ensures ∙ ap (λ (learner : Learner). port_at c.args.s header.dl_dst learner.known) c.self.view_is
    ∙ way_known c.args.s header.dl_src c.args.seen.now.in_port header.dl_dst c.args.self.now.known c.if-header.false
    )
