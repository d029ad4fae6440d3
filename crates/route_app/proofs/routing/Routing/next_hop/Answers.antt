-- The relation determines the hop.
use Rattle.route_app.specs.Paths.{exits_of}
use Rattle.route_app.specs.Routing.{usable}
use Rattle.route_app.proofs.Named.{hop_is}
use Rattle.route_app.proofs.routing.Routing.next_hop.Goals as goal

pub returns-clause-value : goal.returns-clause-value
returns-clause-value c = hop_is (exits_of (usable c.args.self.now)) c.args.from c.args.to c.look_up.result c.look_up.ensures
