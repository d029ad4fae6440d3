use Rattle.topology.specs.Network.{places_of}
use Rattle.scenario_doc.specs.Rules.{each, link_rules}
use Rattle.scenario_doc.proofs.SeenPlaces.{one_more_link}
use Rattle.scenario_doc.proofs.Walks.{walked}
use Rattle.scenario_doc.proofs.rules_network.links_rules.Goals as goal

pub loop-index-preserved : goal.loop-index-preserved
loop-index-preserved c = let links = c.args.network.now.links in let items = c.deref-link-items.result.now in let same = c.deref-link-items.ensures in
    let i = c.loop-index.index in record {
      rest = walked (link_rules c.args.network.now) links items i (0, 0, 0, 0) c.link_rules-found.result c.below_index.result
          c.in_ok-below_index.field-0 (each (link_rules c.args.network.now) links) same c.loop-index-test.true c.link_rules-found.ensures
          c.below_index.ensures c.in_ok-below_index.was c.loop-index.invariant.rest;
      taken = one_more_link links items i (0, 0, 0, 0) (places_of c.args.network.now.hosts) c.loop-index.taken.seen c.add.new.self.seen
          c.add-in-loop-index.new.self.seen same c.loop-index-test.true c.loop-index.invariant.taken c.in_ok-add.ensures c.in_ok-add-2.ensures;
    }
