use Rattle.std.proofs.Common.{◌≢◌, ℕ, ◌<◌, get_or, length}
use Rattle.listed.proofs.distinct.all_different.Given as goal

abbrev pub invariant-loop-at : goal.invariant-loop-at
invariant-loop-at g l = (one later : ℕ) (d : g.row.T.Denot) → one < l.at → one < later → later < length l.items → get_or l.items one d ≢ get_or l.items later d
