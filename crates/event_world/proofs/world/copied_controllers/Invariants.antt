use Rattle.std.proofs.Common.{◌≡◌, take}
use Rattle.event_world.proofs.world.copied_controllers.Given as goal

abbrev pub invariant-loop-controller : goal.invariant-loop-controller
invariant-loop-controller g l = l.copies ≡ take l.controller-index l.controllers
