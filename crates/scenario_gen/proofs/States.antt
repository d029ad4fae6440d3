-- The states in which lines are drawn.
use Rattle.std.proofs.Common.{◌≡◌, ℕ, ◌+◌, add-one, refl}
use Rattle.scenario_gen.specs.Script.{line_by, state_before}

-- a line leaves the generator in the state in which the next one is drawn
pub next_line : (seed size k : ℕ) → state_before seed size (k + 1) ≡ (line_by size k (state_before seed size k)).state
next_line seed size k = rw add-one refl
