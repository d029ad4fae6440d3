use Rattle.std.proofs.Common.{◌≡◌, take}
use Rattle.event_world.proofs.world.copied_switches.Given as goal

abbrev pub invariant-loop-switch : goal.invariant-loop-switch
invariant-loop-switch l = l.copies ≡ take l.switch-index l.switches
