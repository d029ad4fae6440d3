use Rattle.std.proofs.Common.{◌≡◌, ◌++◌, drop, length}
use Rattle.route_app.specs.Rounds.{HasRoom, after_round, found, newly_found}
use Rattle.route_app.specs.Ways.{open_ways}
use Rattle.route_app.proofs.rounds.visit_all.Given as goal

-- what is left to be looked at gives the whole
abbrev pub invariant-loop-way : goal.invariant-loop-way
invariant-loop-way l = record {
  rest : after_round l.round (open_ways l.down l.s (drop l.way-index l.ways)) l.row ≡ after_round l.round (open_ways l.down l.s l.ways) l.fn.row;
  queue : found l.queue ++ newly_found l.round (open_ways l.down l.s (drop l.way-index l.ways)) l.row ≡ found l.fn.queue ++ newly_found l.round (open_ways l.down l.s l.ways) l.fn.row;
  size : length l.row ≡ length l.fn.row;
  room : HasRoom l.row l.queue;
  places : length l.queue.places ≡ length l.fn.queue.places;
}
