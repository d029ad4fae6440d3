use Rattle.std.proofs.Common.{sym}
use Rattle.pool_book.specs.Pools.{queues}
use Rattle.event_world.proofs.Reading.{none_quiet, some_quiet}
use Rattle.event_world.proofs.world.World.enabled_first.Goals as goal

pub returns-in_err-name-clause-none : goal.returns-in_err-name-clause-none
returns-in_err-name-clause-none g c = rw (← c.self.view_is) (none_quiet (queues c.self.inside.shell.pools) c.from_residual.result (sym c.in_err-name.ensures) c.from_residual.ensures)

pub returns-clause-none : goal.returns-clause-none
returns-clause-none g c = rw (← c.self.view_is) (some_quiet (queues c.self.inside.shell.pools) (c.in_ok-name.name, c.in_ok-name.item) c.taking.result (sym c.in_ok-name.ensures))
