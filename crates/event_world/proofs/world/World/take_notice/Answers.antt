-- The first item is a notice.
use Rattle.std.proofs.Common.{length, rules}
use Rattle.event_world.proofs.Steps.{notice_waits}
use Rattle.event_world.proofs.world.World.take_notice.Goals as goal

pub obey-requires-clause-item : goal.obey-requires-clause-item
obey-requires-clause-item g c =
    let setup = c.args.setup.now in
    let command = notice_waits setup.topology (length setup.controllers) c.args.s c.args.self.now.shared c.requires.fits.shared c.requires.head in
    search rules
