use Rattle.std.proofs.Common.{◌≡◌, length, replicate, take, None}
use Rattle.route_app.proofs.rounds.clear.Given as goal

abbrev pub invariant-loop-at : goal.invariant-loop-at
invariant-loop-at l = record {
  length : length l.row ≡ length l.fn.row;
  done : take l.at l.row ≡ replicate l.at None;
}
