use Rattle.std.proofs.Common.{◌≡◌, take}
use Rattle.controller_host.proofs.apps.copy_all.Given as goal

-- the applications so far are copied
abbrev pub invariant-loop-app : goal.invariant-loop-app
invariant-loop-app l = l.copies.items ≡ take l.app-index l.apps
