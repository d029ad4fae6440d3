use Rattle.std.proofs.Common.{All, take}
use Rattle.controller_host.specs.Undoing.{IsApp}
use Rattle.controller_host.proofs.apps.parts_of_all.Given as goal

-- it holds of the applications so far
abbrev pub invariant-loop-app : goal.invariant-loop-app
invariant-loop-app l = All IsApp (take l.app-index l.apps)
