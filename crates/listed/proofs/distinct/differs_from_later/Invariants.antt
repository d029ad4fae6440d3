use Rattle.std.proofs.Common.{◌≢◌, ℕ, ◌<◌, get_or}
use Rattle.listed.proofs.distinct.differs_from_later.Given as goal

abbrev pub invariant-loop-later : goal.invariant-loop-later
invariant-loop-later g l = (later : ℕ) (d : g.row.T.Denot) → l.at < later → later < l.later → get_or l.items l.at d ≢ get_or l.items later d
