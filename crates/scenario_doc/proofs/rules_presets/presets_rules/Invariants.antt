use Rattle.std.proofs.Common.{◌≡◌, drop}
use Rattle.scenario_doc.specs.Rules.{each_from, preset_rules}
use Rattle.scenario_doc.proofs.rules_presets.presets_rules.Given as goal

abbrev pub invariant-loop-index : goal.invariant-loop-index
invariant-loop-index l = let rules = preset_rules l.ports l.presets in
    each_from l.index rules (drop l.index l.presets) ≡ each_from 0 rules l.presets
