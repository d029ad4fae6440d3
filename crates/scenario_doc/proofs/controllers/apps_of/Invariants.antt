use Rattle.std.proofs.Common.{◌≡◌, map}
use Rattle.scenario_doc.specs.Applications.{app_of}
use Rattle.scenario_doc.specs.Scenario.{map_of}
use Rattle.scenario_doc.proofs.controllers.apps_of.Given as goal

abbrev pub invariant-loop-plan : goal.invariant-loop-plan
invariant-loop-plan l = l.apps ≡ map (app_of (map_of l.fn.topology)) l.yielded
