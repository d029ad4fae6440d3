use Rattle.std.proofs.Common.{◌≡◌, ◌≤◌, length, map, take}
use Rattle.serde_json.specs.View.{view}
use Rattle.scenario_doc.specs.Written.{switch_data, switches_beside}
use Rattle.scenario_doc.proofs.write_network.switches_json.Given as goal

abbrev pub invariant-loop-s : goal.invariant-loop-s
invariant-loop-s l = map view l.values.items ≡ map switch_data (take l.s (switches_beside l.ports l.owners l.presets))
