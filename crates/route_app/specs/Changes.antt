-- Whether a row of the table has to be found anew when other links can be used.
use Rattle.std.specs.Prelude.{◌≡◌, ℕ, ◌+◌, ◌<◌, ◌==◌, ◌&&◌, ◌||◌, List, length, nat_lt, slice_index_or, Bool, true, false, Option, Some, None}
use Rattle.route_app.specs.Paths.{Exit}
use Rattle.route_app.specs.Ways.{is_down}
use Rattle.route_app.specs.declared.reach.Reach.{Reach}

-- whether the shortest path from a switch begins by a port that leads to a switch one link nearer
abbrev pub begins_by : ℕ → Option Reach → Option Reach → Bool
begins_by port (Some here) (Some there) = here.links == there.links + 1 && here.port == port
begins_by port here there = false

-- whether a path by a port is shorter than the known one, or as short and by a lesser port
abbrev pub is_shorter : ℕ → Option Reach → Option Reach → Bool
is_shorter port here None = false
is_shorter port None (Some there) = true
is_shorter port (Some here) (Some there) = nat_lt (there.links + 1) here.links || (here.links == there.links + 1 && nat_lt port here.port)

-- whether a way out is one that a row has
abbrev pub is_used : List (Option Reach) → Exit → Bool
is_used row e = begins_by e.1 (slice_index_or row e.0 None) (slice_index_or row e.2 None)

-- whether a way out is better than what a row has
abbrev pub would_help : List (Option Reach) → Exit → Bool
would_help row e = is_shorter e.1 (slice_index_or row e.0 None) (slice_index_or row e.2 None)

-- whether a row has to change because a link can no longer be used, or can be used again
abbrev pub is_touched : List (Option Reach) → ℕ × ℕ × ℕ × ℕ → Bool → Bool → Bool
is_touched row link false true = is_used row (link.0, link.1, link.2) || is_used row (link.2, link.3, link.0)
is_touched row link true false = would_help row (link.0, link.1, link.2) || would_help row (link.2, link.3, link.0)
is_touched row link was now = false

-- no link that was told down, or up again, touches a row
abbrev pub IsUntouched : List (Option Reach) → List (ℕ × ℕ × ℕ × ℕ) → List (Bool × Bool) → List (Bool × Bool) → Type 0
IsUntouched row links before now = (k : ℕ) → k < length links → is_touched row (slice_index_or links k (0, 0, 0, 0)) (is_down before k) (is_down now k) ≡ false
