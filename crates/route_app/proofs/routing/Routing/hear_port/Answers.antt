-- What is told, whether the table is made anew or not.
use Rattle.route_app.specs.Routing.{Router}
use Rattle.route_app.proofs.Tellings.{told_one}
use Rattle.route_app.proofs.routing.Routing.hear_port.Goals as goal

pub returns-then-tell : goal.returns-then-tell
returns-then-tell c =
    let before : Router = record { clear_on_down = c.self.inside.clear_on_down; map = c.self.inside.map; down = c.self.inside.down } in
    told_one c.args.s c.args.port.now before c.args.self.now c.as_slice.result.now c.tell.new.down c.self.view_is c.as_slice.ensures c.tell.ensures.told

pub returns-else-tell : goal.returns-else-tell
returns-else-tell c =
    let before : Router = record { clear_on_down = c.self.inside.clear_on_down; map = c.self.inside.map; down = c.self.inside.down } in
    told_one c.args.s c.args.port.now before c.args.self.now c.as_slice.result.now c.tell.new.down c.self.view_is c.as_slice.ensures c.tell.ensures.told
