-- The place is that of the host.
use Rattle.std.proofs.Common.{◌≡◌, ℕ, Option, subst}
use Rattle.std.specs.Prelude.{IfOk}
use Rattle.event_world.specs.Inputs.{injected}
use Rattle.event_world.specs.declared.effect.Effect.{Effect}
use Rattle.event_world.proofs.effect.injected.Goals as goal

pub returns : goal.returns
returns c =
    subst (λ (place : Option (ℕ × ℕ)). IfOk c.injected_at.result (λ (change : Effect). change ≡ injected c.args.status.now c.args.packet place))
    c.place_of.ensures c.injected_at.ensures
