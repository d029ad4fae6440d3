use Rattle.std.proofs.Common.{◌≡◌, ◌++◌, drop, take}
use Rattle.topology.specs.Network.{ends_of, places_of}
use Rattle.scenario_doc.specs.Rules.{each_from, link_rules}
use Rattle.scenario_doc.specs.Taken.{HasPlaces}
use Rattle.scenario_doc.proofs.rules_network.links_rules.Given as goal

abbrev pub invariant-loop-index : goal.invariant-loop-index
invariant-loop-index l = record {
  rest : each_from l.index (link_rules l.network) (drop l.index l.network.links) ≡ each_from 0 (link_rules l.network) l.network.links;
  taken : HasPlaces l.taken.seen (ends_of (take l.index l.network.links) ++ places_of l.network.hosts);
}
