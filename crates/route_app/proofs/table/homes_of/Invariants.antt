use Rattle.std.proofs.Common.{◌≡◌, ◌<◌, ℕ, [], get_or, length, All}
use Rattle.route_app.specs.Rounds.{at_home}
use Rattle.route_app.proofs.table.homes_of.Given as goal

-- the rows so far
abbrev pub invariant-loop-at : goal.invariant-loop-at
invariant-loop-at l = record {
  count : length l.rows ≡ l.at;
  widths : All (λ row. length row ≡ l.size) l.rows;
  homes : (b : ℕ) → b < l.at → get_or l.rows b [] ≡ at_home l.size b;
}
