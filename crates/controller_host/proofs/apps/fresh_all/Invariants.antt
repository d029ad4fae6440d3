use Rattle.std.proofs.Common.{◌≡◌, map, take}
use Rattle.controller_host.specs.Hosting.{as_started}
use Rattle.controller_host.proofs.apps.fresh_all.Given as goal

-- the applications so far have started
abbrev pub invariant-loop-app : goal.invariant-loop-app
invariant-loop-app l = l.fresh.items ≡ map as_started (take l.app-index l.apps)
