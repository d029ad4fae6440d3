use Rattle.std.proofs.Common.{◌≡◌, length, map, take}
use Rattle.route_app.specs.Table.{AreWithin, named}
use Rattle.route_app.proofs.numbers.wires_of.Given as goal

-- the links so far have numbers
abbrev pub invariant-loop-link : goal.invariant-loop-link
invariant-loop-link l = record {
  within : AreWithin (length l.switches) l.wires;
  same : map (named l.switches) l.wires ≡ take l.link-index l.links;
}
