use Rattle.scenario_doc.specs.Rules.{each, host_rules}
use Rattle.scenario_doc.proofs.SeenPlaces.{one_more_address, one_more_host}
use Rattle.scenario_doc.proofs.Walks.{walked}
use Rattle.scenario_doc.proofs.rules_network.hosts_rules.Goals as goal

pub loop-index-preserved : goal.loop-index-preserved
loop-index-preserved c = let hosts = c.args.network.now.hosts in let items = c.deref-host-items.result.now in let same = c.deref-host-items.ensures in
    let i = c.loop-index.index in record {
      rest = walked (host_rules c.args.network.now) hosts items i (0, 0, 0) c.host_rules-found.result c.below_index.result c.in_ok-below_index.field-0
          (each (host_rules c.args.network.now) hosts) same c.loop-index-test.true c.host_rules-found.ensures c.below_index.ensures
          c.in_ok-below_index.was c.loop-index.invariant.rest;
      places = one_more_host hosts items i (0, 0, 0) c.loop-index.earlier.places.seen c.add.new.self.seen same c.loop-index-test.true
          c.loop-index.invariant.places c.in_ok-add.ensures;
      addresses = one_more_address hosts items i (0, 0, 0) c.loop-index.earlier.addresses.seen c.add-in-loop-index.new.self.seen same
          c.loop-index-test.true c.loop-index.invariant.addresses c.in_ok-add-2.ensures;
    }
