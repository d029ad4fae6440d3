use Rattle.std.proofs.Common.{◌∙◌, refl, sym}
use Rattle.event_world.proofs.Reading.{head_missing, head_there}
use Rattle.event_world.proofs.world.World.head_of.Goals as goal

pub returns-in_err-pool-2 : goal.returns-in_err-pool-2
returns-in_err-pool-2 g c =
    rw c.from_residual-in_err-pool-2.ensures
    (sym (head_missing c.args.self.now.shared c.self.inside.shell.pools c.args.event.now c.in_ok-pool.field-0 (rw (← c.self.view_is) refl) (sym c.in_ok-pool.ensures) (sym c.in_err-pool-2.ensures)))

pub returns : goal.returns
returns g c =
    c.head.ensures
    ∙ sym (head_there c.args.self.now.shared c.self.inside.shell.pools c.args.event.now c.in_ok-pool.field-0 c.in_ok-pool-2.field-0.now (rw (← c.self.view_is) refl) (sym c.in_ok-pool.ensures) (sym c.in_ok-pool-2.ensures))
