-- The world still fits after an input.
use Rattle.std.proofs.Common.{subst, sym}
use Rattle.event_world.specs.Fits.{Fits}
use Rattle.event_world.specs.World.{Situation, counted_world}
use Rattle.event_world.proofs.InputsFit.{fits_by_input}
use Rattle.event_world.proofs.world.World.give.Goals as goal

pub returns-clause-fits : goal.returns-clause-fits
returns-clause-fits g c =
    let setup = c.args.setup.now in
    subst (λ (w : Situation g.row.C.Denot). Fits g.C.Controller.policies setup (counted_world 1 w)) (sym c.in_ok-take_input.ensures.ok)
    (fits_by_input g.C.Controller.policies g.C.Controller.react setup c.args.self.now c.args.input.now c.requires.setup c.requires.input c.requires.fits c.requires.inputs)
