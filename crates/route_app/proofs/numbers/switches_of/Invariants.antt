use Rattle.std.proofs.Common.{All, Contains, take}
use Rattle.route_app.specs.Table.{Ascends}
use Rattle.route_app.proofs.numbers.switches_of.Given as goal

-- the ends of the links so far are there
abbrev pub invariant-loop-link : goal.invariant-loop-link
invariant-loop-link l = record {
  ascending : Ascends l.switches.items;
  ends : All (λ link. Contains l.switches.items link.0 × Contains l.switches.items link.2) (take l.link-index l.links);
}
