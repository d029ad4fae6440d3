use Rattle.std.proofs.Common.{◌≡◌, length, take}
use Rattle.route_app.proofs.table.copy_flags.Given as goal

abbrev pub invariant-loop-at : goal.invariant-loop-at
invariant-loop-at l = record {
  size : length l.to ≡ length l.from;
  done : take l.at l.to ≡ take l.at l.from;
}
