use Rattle.std.proofs.Common.{◌≡◌, All, map, take}
use Rattle.scenario_doc.specs.Written.{IsNarrowPlan}
use Rattle.scenario_doc.specs.WrittenScenario.{plan_of_app}
use Rattle.scenario_doc.proofs.write_setup.plans_of_host.Given as goal

abbrev pub invariant-loop-app : goal.invariant-loop-app
invariant-loop-app l = (l.plans ≡ map plan_of_app (take l.app-index l.apps)) × All IsNarrowPlan l.plans
