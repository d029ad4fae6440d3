use Rattle.std.proofs.Common.{◌≡◌, ◌++◌, flat_map, take}
use Rattle.controller_host.specs.Hosting.{reacting}
use Rattle.controller_host.proofs.apps.send_all.Given as goal

-- what the applications so far answer is sent
abbrev pub invariant-loop-app : goal.invariant-loop-app
invariant-loop-app l = l.out ≡ l.fn.out ++ flat_map (λ one. (reacting one l.item).sent) (take l.app-index l.apps)
