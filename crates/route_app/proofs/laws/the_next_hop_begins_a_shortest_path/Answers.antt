use Rattle.route_app.proofs.Shortest.{is_next_hop}
use Rattle.route_app.proofs.laws.the_next_hop_begins_a_shortest_path.Goals as goal

pub returns : goal.returns
returns c = is_next_hop
