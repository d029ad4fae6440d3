use Rattle.std.proofs.Common.{◌≡◌, ◌++◌, drop, length, take}
use Rattle.route_app.specs.Rounds.{HasRoom, after_round, found, newly_found}
use Rattle.route_app.specs.Ways.{leading_to}
use Rattle.route_app.proofs.rounds.run_round.Given as goal

-- the switches that are left give the whole round
abbrev pub invariant-loop-at : goal.invariant-loop-at
invariant-loop-at l = record {
  rest : after_round l.round (leading_to l.ways_in l.down (drop l.at (found l.fn.queue))) l.row ≡ after_round l.round (leading_to l.ways_in l.down (drop l.start (found l.fn.queue))) l.fn.row;
  queue : found l.queue ++ newly_found l.round (leading_to l.ways_in l.down (drop l.at (found l.fn.queue))) l.row ≡ found l.fn.queue ++ newly_found l.round (leading_to l.ways_in l.down (drop l.start (found l.fn.queue))) l.fn.row;
  before : take l.fn.queue.len (found l.queue) ≡ found l.fn.queue;
  size : length l.row ≡ length l.fn.row;
  room : HasRoom l.row l.queue;
  places : length l.queue.places ≡ length l.fn.queue.places;
}
