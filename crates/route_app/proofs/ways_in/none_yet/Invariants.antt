use Rattle.std.proofs.Common.{◌≡◌, [], replicate}
use Rattle.route_app.proofs.ways_in.none_yet.Given as goal

abbrev pub invariant-loop : goal.invariant-loop
invariant-loop l = l.ways_in ≡ replicate l.counter []
