use Rattle.std.proofs.Common.{◌≡◌, drop, take}
use Rattle.topology.specs.Network.{places_of}
use Rattle.scenario_doc.specs.Rules.{each_from, host_rules}
use Rattle.scenario_doc.specs.Taken.{HasAddresses, HasPlaces}
use Rattle.scenario_doc.proofs.rules_network.hosts_rules.Given as goal

abbrev pub invariant-loop-index : goal.invariant-loop-index
invariant-loop-index l = record {
  rest : each_from l.index (host_rules l.network) (drop l.index l.network.hosts) ≡ each_from 0 (host_rules l.network) l.network.hosts;
  places : HasPlaces l.earlier.places.seen (places_of (take l.index l.network.hosts));
  addresses : HasAddresses l.earlier.addresses.seen (take l.index l.network.hosts);
}
