-- A search by levels, backwards from one switch: in each round the switches that are one link further off are found.
use Rattle.std.specs.Prelude.{ℕ, ◌+◌, ◌≤◌, ◌==◌, ◌&&◌, List, [], ◌∷◌, filter, fold, is_none, length, nat_lt, replicate, slice_index_or, slice_set, take, Bool, true, Option, Some, None, if◌then◌else◌}
use Rattle.route_app.specs.Paths.{Exit}
use Rattle.route_app.specs.declared.queue.Queue.{Queue}
use Rattle.route_app.specs.declared.reach.Reach.{Reach}

-- only the switch itself is known
abbrev pub at_home : ℕ → ℕ → List (Option Reach)
at_home size b = slice_set (replicate size None) b (Some (record { links = 0; port = 0 }))

-- whether a path of so many links by a port is new, or as short as the known one and by a lesser port
abbrev pub is_better : ℕ → ℕ → Option Reach → Bool
is_better links port None = true
is_better links port (Some reach) = reach.links == links && nat_lt port reach.port

-- a way out to a switch of the last round is looked at
abbrev pub visited : ℕ → List (Option Reach) → Exit → List (Option Reach)
visited round row e = if is_better (round + 1) e.1 (slice_index_or row e.0 None) then slice_set row e.0 (Some (record { links = round + 1; port = e.1 })) else row

-- each of some ways out is
abbrev pub after_round : ℕ → List Exit → List (Option Reach) → List (Option Reach)
after_round round exits row = fold (visited round) row exits

-- the switches to which no path was known before, in order
abbrev pub newly_found : ℕ → List Exit → List (Option Reach) → List ℕ
newly_found round [] row = []
newly_found round (e ∷ exits) row =
    if is_none (slice_index_or row e.0 None) then e.0 ∷ newly_found round exits (visited round row e) else newly_found round exits (visited round row e)

-- the switches in a queue
abbrev pub found : Queue → List ℕ
found queue = take queue.len queue.places

-- to how many switches no path is known
abbrev pub unknown : List (Option Reach) → ℕ
unknown row = length (filter (λ o. is_none o) row)

-- a queue has room for them
abbrev pub HasRoom : List (Option Reach) → Queue → Type 0
HasRoom row queue = (queue.len + unknown row ≤ length row) × (length row ≤ length queue.places)
