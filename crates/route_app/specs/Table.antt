-- A table of the shortest ways between all switches, by their numbers.
use Rattle.std.specs.Prelude.{◌≡◌, ℕ, ◌+◌, ◌<◌, ◌≤◌, ◌^◌, List, [], length, map, slice_index, slice_index_or, All, Bool, Option, Some, None}
use Rattle.route_app.specs.Paths.{Begins, Exit, Path, exits_of, up_of}
use Rattle.route_app.specs.declared.reach.Reach.{Reach}
use Rattle.route_app.specs.declared.reach.Rows.{Rows}
use Rattle.route_app.specs.Ways.{AreWaysIn}

-- the ways out of the links that can be used, both of each
abbrev pub ways : List (ℕ × ℕ × ℕ × ℕ) → List (Bool × Bool) → List Exit
ways links down = exits_of (up_of links down)

-- the number of links of a shortest path from switch a to switch b, and the least port by which one begins
pub record IsWay (exits : List Exit) (b a : ℕ) (reach : Reach) : Type 0 where
  pub path : Path exits reach.links a b
  pub fewest : (n : ℕ) → Path exits n a b → reach.links ≤ n
  pub begins : (n : ℕ) → reach.links ≡ n + 1 → Begins exits n a b reach.port
  pub least : (n q : ℕ) → reach.links ≡ n + 1 → Begins exits n a b q → reach.port ≤ q

-- the same, or that there is no path
abbrev pub IsReach : List Exit → ℕ → ℕ → Option Reach → Type 0
IsReach exits b a None = (n : ℕ) → ¬ Path exits n a b
IsReach exits b a (Some reach) = IsWay exits b a reach

-- a row of the table: the ways from each switch to one
abbrev pub IsRow : List Exit → ℕ → List (Option Reach) → Type 0
IsRow exits b row = (a : ℕ) → a < length row → IsReach exits b a (slice_index_or row a None)

-- so many rows of so many ways
abbrev pub IsSquare : ℕ → List (List (Option Reach)) → Type 0
IsSquare size rows = (length rows ≡ size) × All (λ row. length row ≡ size) rows

-- the ways to each switch
abbrev pub IsTable : List Exit → List (List (Option Reach)) → Type 0
IsTable exits rows = (b : ℕ) → b < length rows → IsRow exits b (slice_index_or rows b [])

-- the switches at both ends of each link are among so many
abbrev pub AreWithin : ℕ → List (ℕ × ℕ × ℕ × ℕ) → Type 0
AreWithin size links = All (λ link. (link.0 < size) × (link.2 < size)) links

-- each number is less than the later ones
abbrev pub Ascends : List ℕ → Type 0
Ascends xs = (i j : ℕ) → i < j → j < length xs → slice_index xs i < slice_index xs j

-- a link between switches that are given by their places in a list
abbrev pub named : List ℕ → ℕ × ℕ × ℕ × ℕ → ℕ × ℕ × ℕ × ℕ
named switches link = (slice_index switches link.0, link.1, slice_index switches link.2, link.3)

-- the switches of a network are numbered: by their places among all that are at the end of a link, in ascending order
pub record IsNumbered (switches : List ℕ) (links wires : List (ℕ × ℕ × ℕ × ℕ)) : Type 0 where
  pub ascending : Ascends switches
  pub few : length switches ≤ 2 ^ 16
  pub within : AreWithin (length switches) wires
  pub same : map (named switches) wires ≡ links

-- a table of so many rows and columns has what its search needs: the ways in to each switch, and room for all in the queue
pub record IsMade (size : ℕ) (links : List (ℕ × ℕ × ℕ × ℕ)) (table : Rows) : Type 0 where
  pub square : IsSquare size table.rows
  pub switches : length table.ways_in ≡ size
  pub ways_in : AreWaysIn (length links) links table.ways_in
  pub room : size ≤ length table.queue.places

-- and it is right for the links that could be used when it was filled last
pub record IsReady (size : ℕ) (links : List (ℕ × ℕ × ℕ × ℕ)) (table : Rows) : Type 0 where
  pub made : IsMade size links table
  pub flags : length table.down ≡ length links
  pub right : IsTable (ways links table.down) table.rows

-- what a routing application holds: its switches are numbered, and its table is right for the links that can be used
pub record IsRouted (links wires : List (ℕ × ℕ × ℕ × ℕ)) (switches : List ℕ) (down : List (Bool × Bool)) (table : Rows) : Type 0 where
  pub numbered : IsNumbered switches links wires
  pub flags : length down ≡ length links
  pub ready : IsReady (length switches) wires table
  pub right : IsTable (ways wires down) table.rows
