-- What the search found, or that there is nothing.
use Rattle.route_app.proofs.Places.{absent, belongs, found}
use Rattle.route_app.proofs.numbers.number_of.Goals as goal

pub returns-in-Ok : goal.returns-in-Ok
returns-in-Ok c = found c.args.switches.now c.args.s c.in-Ok.at c.requires c.in-Ok.ensures.position

pub returns-in-Err : goal.returns-in-Err
returns-in-Err c = absent c.args.switches.now c.args.s c.in-Err.field-0 (belongs c.args.switches.now c.args.s c.in-Err.field-0 c.requires c.in-Err.ensures.position)
