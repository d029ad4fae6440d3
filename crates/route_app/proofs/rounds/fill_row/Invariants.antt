use Rattle.std.proofs.Common.{◌≡◌, length}
use Rattle.route_app.proofs.Search.{IsSearched}
use Rattle.route_app.proofs.rounds.fill_row.Given as goal

-- what so many rounds find
abbrev pub invariant-loop-round : goal.invariant-loop-round
invariant-loop-round l = record {
  size : length l.row ≡ length l.fn.row;
  places : length l.queue.places ≡ length l.fn.queue.places;
  searched : IsSearched l.to l.start l.round l.ways_in l.down l.row l.queue;
}
