use Rattle.std.proofs.Common.{take}
use Rattle.topology.specs.Network.{places_of}
use Rattle.scenario_doc.specs.Taken.{HasPlaces}
use Rattle.scenario_doc.proofs.rules_network.host_places.Given as goal

abbrev pub invariant-loop-host : goal.invariant-loop-host
invariant-loop-host l = HasPlaces l.places.seen (places_of (take l.host-index l.network.hosts))
