-- One application more.
use Rattle.std.proofs.Common.{subst, take_all}
use Rattle.std.proofs.Common.{All}
use Rattle.std.proofs.lemmas.List.Elements.{All-more}
use Rattle.controller_host.specs.Undoing.{IsApp}
use Rattle.controller_host.proofs.apps.parts_of_all.Goals as goal

pub loop-app-preserved : goal.loop-app-preserved
loop-app-preserved c =
    All-more IsApp c.args.apps.now c.loop-app.app-index c.app-item.result c.loop-app-test.true c.loop-app.invariant (subst IsApp c.app-item.is c.parts.ensures)

pub returns : goal.returns
returns c = let all : All IsApp c.args.apps.now = subst (All IsApp) (take_all c.loop-app.app-index c.args.apps.now c.loop-app-test.false) c.loop-app.invariant in all
