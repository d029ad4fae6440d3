use Rattle.std.proofs.Common.{◌≡◌, map}
use Rattle.scenario_doc.specs.Applications.{host_by}
use Rattle.scenario_doc.specs.Scenario.{map_of}
use Rattle.scenario_doc.proofs.controllers.hosts_by.Given as goal

abbrev pub invariant-loop-apps : goal.invariant-loop-apps
invariant-loop-apps l = l.hosts ≡ map (host_by (map_of l.fn.topology)) l.yielded
