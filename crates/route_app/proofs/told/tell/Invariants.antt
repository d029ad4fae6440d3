use Rattle.std.proofs.Common.{◌≡◌, ◌++◌, drop, false, length, take}
use Rattle.route_app.specs.Routing.{told_ends}
use Rattle.route_app.proofs.told.tell.Given as goal

-- the links so far have what is told, and the others will
abbrev pub invariant-loop-at : goal.invariant-loop-at
invariant-loop-at l = record {
  rest : take l.at l.down ++ told_ends l.s l.port.port_no l.is_down (drop l.at l.links) (drop l.at l.down) ≡ told_ends l.s l.port.port_no l.is_down l.links l.fn.down;
  length : length l.down ≡ length l.fn.down;
  same : l.changed ≡ false → l.down ≡ l.fn.down;
}
