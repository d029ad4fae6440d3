-- The passes of a gate.
use Rattle.std.specs.Prelude.{ℕ, ◌+◌, ◌-◌, ◌^◌, ◌≤◌, min}
use Rattle.run_recorder.specs.declared.gate.OpenGate.{OpenGate}

-- how often one passed through an open gate
abbrev pub open_passes : OpenGate → ℕ
open_passes gate = gate.passes

-- the passes rose by so many at least, or are at their last value
abbrev pub Rise : ℕ → ℕ → ℕ → Type 0
Rise before now more = min (before + more) (2 ^ 64 - 1) ≤ now
