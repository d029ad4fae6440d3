use Rattle.std.proofs.Common.{◌≡◌, drop}
use Rattle.scenario_doc.specs.Rules.{each_from}
use Rattle.scenario_doc.proofs.rules.each.Given as goal

abbrev pub invariant-loop-index : goal.invariant-loop-index
invariant-loop-index g l = let rules = g.R.Rules.rules l.with in
    each_from l.index rules (drop l.index l.list) ≡ each_from 0 rules l.list
