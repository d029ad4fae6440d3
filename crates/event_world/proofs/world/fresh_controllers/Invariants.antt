use Rattle.std.proofs.Common.{◌≡◌, All, map, take}
use Rattle.event_world.proofs.world.fresh_controllers.Given as goal

abbrev pub invariant-loop-controller : goal.invariant-loop-controller
invariant-loop-controller g l = record {
  start : l.fresh ≡ map g.C.Controller.start (take l.controller-index l.controllers);
  policies : All (λ c. g.C.Controller.policies c ≡ 0) l.fresh;
}
