use Rattle.std.proofs.Common.{◌≡◌, take}
use Rattle.event_world.specs.World.{switches_at_start}
use Rattle.event_world.proofs.world.start_switches.Given as goal

abbrev pub invariant-loop-s : goal.invariant-loop-s
invariant-loop-s l = l.switches ≡ take l.s (switches_at_start l.ports l.presets)
