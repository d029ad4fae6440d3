-- The first item is that of the pool's queue.
use Rattle.std.proofs.Common.{◌∙◌, Some, None}
use Rattle.event_world.proofs.Steps.{head_found}
use Rattle.event_world.proofs.actors.head_in.Goals as goal

pub returns-in_err-pool : goal.returns-in_err-pool
returns-in_err-pool c = rw c.from_residual.ensures (head_found c.args.name c.args.pools.now None (rw c.in_err-pool.was at c.pool.ensures))

pub returns : goal.returns
returns c = c.head.ensures ∙ head_found c.args.name c.args.pools.now (Some c.in_ok-pool.field-0.now) (rw c.in_ok-pool.was at c.pool.ensures)
