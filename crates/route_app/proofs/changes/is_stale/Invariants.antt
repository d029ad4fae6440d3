use Rattle.std.proofs.Common.{◌≡◌, ◌<◌, ◌≤◌, ℕ, false, get_or}
use Rattle.route_app.specs.Changes.{is_touched}
use Rattle.route_app.specs.Ways.{is_down}
use Rattle.route_app.proofs.changes.is_stale.Given as goal

-- no link so far touches the row
abbrev pub invariant-loop-at : goal.invariant-loop-at
invariant-loop-at l = (k : ℕ) → l.fn.span.0 ≤ k → k < l.at → is_touched l.row (get_or l.wires k (0, 0, 0, 0)) (is_down l.before k) (is_down l.now k) ≡ false
