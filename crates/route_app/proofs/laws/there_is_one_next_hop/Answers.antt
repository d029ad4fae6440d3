use Rattle.route_app.proofs.Shortest.{one_next_hop}
use Rattle.route_app.proofs.laws.there_is_one_next_hop.Goals as goal

pub returns : goal.returns
returns c = one_next_hop
