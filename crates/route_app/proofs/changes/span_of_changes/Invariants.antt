use Rattle.std.proofs.Common.{◌≡◌, ◌<◌, ◌≤◌, ◌⊎◌, ℕ, false, get_or}
use Rattle.route_app.proofs.changes.span_of_changes.Given as goal

-- outside what was found so far the flags so far are the same
abbrev pub invariant-loop-at : goal.invariant-loop-at
invariant-loop-at l = record {
  top : l.end ≤ l.at;
  same : (k : ℕ) → k < l.at → (k < l.start) ⊎ (l.end ≤ k) → get_or l.before k (false, false) ≡ get_or l.now k (false, false);
}
