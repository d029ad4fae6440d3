use Rattle.std.proofs.Common.{◌≡◌, length}
use Rattle.route_app.specs.Ways.{AreWaysIn}
use Rattle.route_app.proofs.ways_in.ways_in_of.Given as goal

-- the links so far stand at their ends
abbrev pub invariant-loop-link : goal.invariant-loop-link
invariant-loop-link l = record {
  size : length l.ways_in ≡ l.size;
  ways : AreWaysIn l.link l.wires l.ways_in;
}
