use Rattle.std.proofs.Common.{◌≡◌, drop}
use Rattle.std.specs.List.{list_any}
use Rattle.topology.specs.Network.{ends_of, is_place}
use Rattle.scenario_doc.proofs.rules_script.is_end.Given as goal

abbrev pub invariant-loop-link : goal.invariant-loop-link
invariant-loop-link l = list_any (is_place l.s l.p) (ends_of (drop l.link-index l.network.links)) ≡ list_any (is_place l.s l.p) (ends_of l.network.links)
