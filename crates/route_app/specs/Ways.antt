-- The ways in to each switch: what a search that goes backwards follows.
use Rattle.std.specs.Prelude.{ℕ, ◌<◌, ◌||◌, ◌↔◌, List, [], ◌∷◌, ◌++◌, All, Contains, filter_map, flat_map, length, slice_index_or, slice_set, Bool, false, Some, None, if◌then◌else◌}
use Rattle.route_app.specs.Paths.{Exit, exits_of}
use Rattle.route_app.specs.declared.reach.WayIn.{WayIn}

-- What stands at each switch are the ways in to it: exactly those of the first so many links.
abbrev pub AreWaysIn : ℕ → List (ℕ × ℕ × ℕ × ℕ) → List (List WayIn) → Type 0
AreWaysIn count links ways_in = (s : ℕ) (way : WayIn) → s < length ways_in
    → Contains (slice_index_or ways_in s []) way ↔ ((way.link < count) × Contains (exits_of (slice_index_or links way.link (0, 0, 0, 0) ∷ [])) (way.from, way.port, s))

-- a way in is put to a switch
abbrev pub with_way : ℕ → WayIn → List (List WayIn) → List (List WayIn)
with_way s way ways_in = slice_set ways_in s (slice_index_or ways_in s [] ++ way ∷ [])

-- a link is put to the switches at its ends
abbrev pub with_both : ℕ → ℕ × ℕ × ℕ × ℕ → List (List WayIn) → List (List WayIn)
with_both k link ways_in = with_way link.0 (record { from = link.2; port = link.3; link = k }) (with_way link.2 (record { from = link.0; port = link.1; link = k }) ways_in)

-- whether an end of a link is told down
abbrev pub is_down : List (Bool × Bool) → ℕ → Bool
is_down down k = (slice_index_or down k (false, false)).0 || (slice_index_or down k (false, false)).1

-- the ways in to a switch whose links can be used, as ways out
abbrev pub open_ways : List (Bool × Bool) → ℕ → List WayIn → List Exit
open_ways down s ways = filter_map (λ way. if is_down down way.link then None else Some (way.from, way.port, s)) ways

-- the same by the switch's number
abbrev pub open_at : List (List WayIn) → List (Bool × Bool) → ℕ → List Exit
open_at ways_in down s = open_ways down s (slice_index_or ways_in s [])

-- the ways out that lead to some switches
abbrev pub leading_to : List (List WayIn) → List (Bool × Bool) → List ℕ → List Exit
leading_to ways_in down switches = flat_map (open_at ways_in down) switches

-- ways in are from so many switches, along so many links
abbrev pub AreWays : ℕ → ℕ → List WayIn → Type 0
AreWays size links ways = All (λ way. (way.from < size) × (way.link < links)) ways

-- these ways out are those that the ways in to all switches stand for
abbrev pub AreOpen : List Exit → List (List WayIn) → List (Bool × Bool) → Type 0
AreOpen exits ways_in down = (e : Exit) → Contains exits e ↔ Contains (open_at ways_in down e.2) e
