use Rattle.std.proofs.Common.{◌≡◌, All, map, take}
use Rattle.scenario_doc.specs.Written.{IsNarrowPlan}
use Rattle.scenario_doc.specs.WrittenScenario.{plans_of_host}
use Rattle.scenario_doc.proofs.write_setup.plans_by.Given as goal

abbrev pub invariant-loop-host : goal.invariant-loop-host
invariant-loop-host l = (l.plans ≡ map plans_of_host (take l.host-index l.hosts)) × All (All IsNarrowPlan) l.plans
