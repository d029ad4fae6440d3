-- What is told, whether the table is made anew or not.
use Rattle.route_app.specs.Routing.{Router}
use Rattle.route_app.proofs.Tellings.{told_state}
use Rattle.route_app.proofs.routing.Routing.hear_ports.Goals as goal

pub returns-then-tell_all : goal.returns-then-tell_all
returns-then-tell_all c =
    let before : Router = record { clear_on_down = c.self.inside.clear_on_down; map = c.self.inside.map; down = c.self.inside.down } in
    told_state c.args.s c.args.ports.now before c.args.self.now c.as_slice.result.now c.tell_all.new.down c.self.view_is c.as_slice.ensures c.tell_all.ensures.told

pub returns-else-tell_all : goal.returns-else-tell_all
returns-else-tell_all c =
    let before : Router = record { clear_on_down = c.self.inside.clear_on_down; map = c.self.inside.map; down = c.self.inside.down } in
    told_state c.args.s c.args.ports.now before c.args.self.now c.as_slice.result.now c.tell_all.new.down c.self.view_is c.as_slice.ensures c.tell_all.ensures.told
