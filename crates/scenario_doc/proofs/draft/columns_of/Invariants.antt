use Rattle.std.proofs.Common.{◌≡◌, map}
use Rattle.scenario_doc.proofs.draft.columns_of.Given as goal

abbrev pub invariant-loop-switch : goal.invariant-loop-switch
invariant-loop-switch l = (l.columns.ports ≡ map (λ s. s.ports) l.yielded) × (l.columns.owner ≡ map (λ s. s.owner) l.yielded) × (l.columns.presets ≡ map (λ s. s.presets) l.yielded)
