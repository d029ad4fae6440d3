-- How many headers a cell has.
use Rattle.std.specs.Prelude.{ℕ, ◌+◌, ◌-◌, ◌*◌, List, [], ◌∷◌, sum_by}
use Rattle.header_classes.specs.declared.interval.Interval.{Interval}

-- how many numbers an interval has
abbrev pub breadth : Interval → ℕ
breadth interval = interval.high + 1 - interval.low

-- the product of the breadths of its intervals
abbrev pub size : List Interval → ℕ
size [] = 1
size (i ∷ is) = breadth i * size is

-- how many headers there are in several cells
abbrev pub sizes : List (List Interval) → ℕ
sizes cells = sum_by size cells
