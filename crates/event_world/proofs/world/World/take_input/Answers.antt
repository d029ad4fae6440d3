-- The pools can number what an input brings.
use Rattle.std.proofs.Common.{◌≡◌, ◌∙◌, ap, length, subst, sym}
use Rattle.event_world.specs.Inputs.{effect}
use Rattle.event_world.specs.Room.{CanNumber}
use Rattle.event_world.specs.Shell.{shared_of}
use Rattle.event_world.specs.World.{Situation}
use Rattle.event_world.proofs.Giving.{input_numbers}
use Rattle.event_world.proofs.InputsFit.{narrow}
use Rattle.event_world.proofs.world.World.take_input.Goals as goal

pub apply-requires : goal.apply-requires
apply-requires g c =
    let world = c.args.self.now in
    let setup = c.args.setup.now in
    let change = c.in_ok-change.change in
    let inside : Situation g.row.C.Denot = record { shared = shared_of c.self.inside.shell; switches = c.self.inside.switches; controllers = c.self.inside.controllers } in
    let same : inside ≡ world = c.self.view_is in
    subst (λ (w : Situation g.row.C.Denot). CanNumber (length change.mail) w.shared.pools) (sym same)
    (input_numbers setup.topology (length setup.controllers) c.args.input.now change world.shared c.requires.fits.shared c.requires.events (narrow setup.topology.ports c.requires.setup.network.switches.ports)
    (c.in_ok-change.ensures ∙ ap (λ (w : Situation g.row.C.Denot). effect setup.topology w.shared.status c.args.input.now) same))
