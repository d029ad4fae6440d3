-- A host takes its first packet.
use Rattle.std.proofs.Common.{◌≡◌, ◌+◌, ◌<◌, ◌^◌, length, slice_index, subst, sym}
use Rattle.pool_book.specs.Pools.{queues}
use Rattle.event_world.specs.Shell.{shared_of}
use Rattle.event_world.specs.World.{Situation}
use Rattle.event_world.proofs.Giving.{fits_host, host_counts, host_there, host_was}
use Rattle.event_world.proofs.world.World.receive.Goals as goal

pub count_one-requires-clause-host : goal.count_one-requires-clause-host
count_one-requires-clause-host g c =
    let world = c.args.self.now in
    let setup = c.args.setup.now in
    let inside : Situation g.row.C.Denot = record { shared = shared_of c.self.inside.shell; switches = c.self.inside.switches; controllers = c.self.inside.controllers } in
    let same : inside ≡ world = c.self.view_is in
    subst (λ (w : Situation g.row.C.Denot). c.args.h < length w.shared.received) (sym same) (host_there setup.topology (length setup.controllers) c.args.h world.shared c.requires.fits.shared c.requires.head)

pub count_one-requires-clause-room : goal.count_one-requires-clause-room
count_one-requires-clause-room g c =
    let world = c.args.self.now in
    let setup = c.args.setup.now in
    let inside : Situation g.row.C.Denot = record { shared = shared_of c.self.inside.shell; switches = c.self.inside.switches; controllers = c.self.inside.controllers } in
    let same : inside ≡ world = c.self.view_is in
    subst (λ (w : Situation g.row.C.Denot). slice_index w.shared.received c.args.h + 1 < 2 ^ 64) (sym same) (host_counts setup.topology (length setup.controllers) c.args.h world.shared c.requires.fits.shared c.requires.events c.requires.head)

pub returns-clause-done : goal.returns-clause-done
returns-clause-done g c =
    let world = c.args.self.now in
    let setup = c.args.setup.now in
    let inside : Situation g.row.C.Denot = record { shared = shared_of c.self.inside.shell; switches = c.self.inside.switches; controllers = c.self.inside.controllers } in
    let same : inside ≡ world = c.self.view_is in
    host_was g.C.Controller.react setup.topology c.args.h world inside (queues c.take.new.self) c.count_one.new.received same c.requires.head c.take.ensures.queues c.count_one.ensures

pub returns-clause-fits : goal.returns-clause-fits
returns-clause-fits g c = fits_host g.C.Controller.react g.C.Controller.policies c.args.setup.now c.args.h c.args.self.now _ c.requires.fits c.requires.head (returns-clause-done g c)
