use Rattle.std.proofs.Common.{◌≡◌, map, take}
use Rattle.switch_core.specs.declared.state.State.{State}
use Rattle.event_world.proofs.world.copied_tables.Given as goal

abbrev pub invariant-loop-switch : goal.invariant-loop-switch
invariant-loop-switch l = l.tables ≡ map (λ (switch : State). switch.table) (take l.switch-index l.switches)
