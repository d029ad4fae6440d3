use Rattle.std.proofs.Common.{◌≡◌, ℕ, ◌<◌, List, Some, slice_get, slice_index}
use Rattle.machine_setup.specs.Setup.{IsPresetsAt}
use Rattle.machine_setup.specs.declared.preset.Preset.{Preset}
use Rattle.machine_setup.proofs.presets.are_presets.Given as goal

abbrev pub invariant-loop-s : goal.invariant-loop-s
invariant-loop-s l = (k : ℕ) → k < l.s → (list : List Preset) → slice_get l.presets k ≡ Some list → IsPresetsAt (slice_index l.ports k) list
