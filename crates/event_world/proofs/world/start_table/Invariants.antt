use Rattle.std.proofs.Common.{◌≡◌, map, take}
use Rattle.machine_setup.specs.Setup.{entry_of}
use Rattle.event_world.proofs.world.start_table.Given as goal

abbrev pub invariant-loop-preset : goal.invariant-loop-preset
invariant-loop-preset l = l.entries.items ≡ map entry_of (take l.preset-index l.presets)
