use Rattle.std.proofs.Common.{◌≡◌, ◌==◌, drop}
use Rattle.std.specs.List.{find}
use Rattle.route_app.proofs.routing.host_with.Given as goal

abbrev pub invariant-loop-host : goal.invariant-loop-host
invariant-loop-host l = find (λ host. host.2 == l.address) l.hosts ≡ find (λ host. host.2 == l.address) (drop l.host-index l.hosts)
