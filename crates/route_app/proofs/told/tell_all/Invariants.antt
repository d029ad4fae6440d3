use Rattle.std.proofs.Common.{◌≡◌, drop, false, length}
use Rattle.route_app.specs.Routing.{all_told_ends}
use Rattle.route_app.proofs.told.tell_all.Given as goal

-- the ports that are left give the whole
abbrev pub invariant-loop-port : goal.invariant-loop-port
invariant-loop-port l = record {
  rest : all_told_ends l.s (drop l.port-index l.ports) l.links l.down ≡ all_told_ends l.s l.ports l.links l.fn.down;
  length : length l.down ≡ length l.fn.down;
  same : l.changed ≡ false → l.down ≡ l.fn.down;
}
