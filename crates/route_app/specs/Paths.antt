-- Paths through a network over links that can be used, and the next hop on a shortest one.
use Rattle.std.specs.Prelude.{◌≡◌, ◌≢◌, ℕ, ◌+◌, ◌-◌, ◌≤◌, ◌==◌, ◌&&◌, ◌||◌, ◌⊎◌, List, [], ◌∷◌, length, flat_map, filter_map, min, zip, Bool, Option, Some, None, option_and_then, if◌then◌else◌, Contains, zero, suc}
use Rattle.std.specs.List.{find, list_any, range_with_len, reduce}

-- a way out of a switch: the switch, the port, and the switch at the other end of the link there
abbrev pub Exit : Type 0
Exit = ℕ × ℕ × ℕ

-- both ways of each link, in order
abbrev pub exits_of : List (ℕ × ℕ × ℕ × ℕ) → List Exit
exits_of links = flat_map (λ link. (link.0, link.1, link.2) ∷ (link.2, link.3, link.0) ∷ []) links

-- the links of which neither end is told down
abbrev pub up_of : List (ℕ × ℕ × ℕ × ℕ) → List (Bool × Bool) → List (ℕ × ℕ × ℕ × ℕ)
up_of links down = filter_map (λ both. if both.1.0 || both.1.1 then None else Some both.0) (zip links down)

-- there is a path of so many links from a switch to another
abbrev pub Path : List Exit → ℕ → ℕ → ℕ → Type 0
Path exits zero a b = a ≡ b
Path exits (suc n) a b = (p : ℕ) × (c : ℕ) × Contains exits (a, p, c) × Path exits n c b

-- a path of one link and so many more begins with the link at a port
abbrev pub Begins : List Exit → ℕ → ℕ → ℕ → ℕ → Type 0
Begins exits n a b p = (c : ℕ) × Contains exits (a, p, c) × Path exits n c b

-- The port by which a packet goes on from a switch to another one: the least whose link begins a path of the least number of links.
pub record IsHop (exits : List Exit) (a b p : ℕ) : Type 0 where
  pub apart : a ≢ b
  pub more : ℕ
  pub begins : Begins exits more a b p
  pub fewest : (n : ℕ) → Path exits n a b → more + 1 ≤ n
  pub least : (q : ℕ) → Begins exits more a b q → p ≤ q

-- the next hop; none where there is no path, or none is needed
abbrev pub IsNextHop : List Exit → ℕ → ℕ → Option ℕ → Type 0
IsNextHop exits a b (Some p) = IsHop exits a b p
IsNextHop exits a b None = (a ≡ b) ⊎ ((n : ℕ) → ¬ Path exits n a b)

-- ---- the same as functions

-- whether a path of so many links leads from a switch to another
abbrev pub has_path : List Exit → ℕ → ℕ → ℕ → Bool
has_path exits zero a b = a == b
has_path exits (suc n) a b = list_any (λ e. e.0 == a && has_path exits n e.2 b) exits

-- the least number of links of a path from a switch to another: it needs no more than there are ways out
abbrev pub distance : List Exit → ℕ → ℕ → Option ℕ
distance exits a b = find (λ n. has_path exits n a b) (range_with_len 0 (length exits + 1))

-- the ports whose links begin a path of one link and so many more
abbrev pub ports_on : List Exit → ℕ → ℕ → ℕ → List ℕ
ports_on exits n a b = filter_map (λ e. if e.0 == a && has_path exits n e.2 b then Some e.1 else None) exits

-- the next hop: the least port of a way out that leads one link nearer
abbrev pub next_hop : List Exit → ℕ → ℕ → Option ℕ
next_hop exits a b = if a == b then None else option_and_then (λ d. reduce min (ports_on exits (d - 1) a b)) (distance exits a b)
