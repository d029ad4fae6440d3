use Rattle.scenario_doc.proofs.SeenPlaces.{one_more_host}
use Rattle.scenario_doc.proofs.rules_network.host_places.Goals as goal

pub loop-host-preserved : goal.loop-host-preserved
loop-host-preserved c = one_more_host c.args.network.now.hosts c.deref-host-items.result.now c.loop-host.host-index (0, 0, 0)
    c.loop-host.places.seen c.add.new.self.seen c.deref-host-items.ensures c.loop-host-test.true c.loop-host.invariant c.in_ok-add.ensures
