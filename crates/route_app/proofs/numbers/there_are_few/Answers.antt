use Rattle.route_app.proofs.Places.{few_ascend}
use Rattle.route_app.proofs.numbers.there_are_few.Goals as goal

pub returns : goal.returns
returns c = few_ascend c.args.switches.now 65536 c.requires (λ k within. (c.type_inv.switches k).fits)
