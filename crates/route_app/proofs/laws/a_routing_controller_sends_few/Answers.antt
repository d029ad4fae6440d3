use Rattle.route_app.proofs.Few.{few_sent}
use Rattle.route_app.proofs.laws.a_routing_controller_sends_few.Goals as goal

pub returns : goal.returns
returns c = few_sent
