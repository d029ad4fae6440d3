-- Lines that are marked as kept.
use Rattle.std.specs.Prelude.{ℕ, List, [], ◌∷◌, slice_index_or, slice_set, Bool, true}

-- flags after those at some positions are set; a position past them is none of theirs
abbrev pub marked : List ℕ → List Bool → List Bool
marked [] keep = keep
marked (position ∷ atom) keep = marked atom (slice_set keep position true)

-- flags after those of the atoms with these numbers are set
abbrev pub marked_all : List (List ℕ) → List ℕ → List Bool → List Bool
marked_all atoms [] keep = keep
marked_all atoms (number ∷ numbers) keep = marked_all atoms numbers (marked (slice_index_or atoms number []) keep)
