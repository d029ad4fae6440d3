-- New pools can number a join of each switch.
use Rattle.std.proofs.Common.{◌∙◌, length, ap, subst, sym}
use Rattle.pool_book.specs.Pools.{queues}
use Rattle.event_world.specs.Room.{CanNumber}
use Rattle.event_world.specs.World.{first_joins}
use Rattle.event_world.proofs.Rooms.{number_joins}
use Rattle.event_world.proofs.shell.Shell.start.Goals as goal

pub deliver-requires-clause-numbers : goal.deliver-requires-clause-numbers
deliver-requires-clause-numbers c =
    let owners = c.args.topology.now.owner in
    let made = c.in_ok-make_room.ensures.queues ∙ c.in_ok-pools.ensures in
    let joins = c.in_ok-joins.ensures ∙ ap first_joins c.as_slice-2.ensures in
    subst (λ mail. CanNumber (length mail) (queues c.make_room.new.pools)) (sym joins)
    (subst (CanNumber (length (first_joins owners))) (sym made) (number_joins c.as_slice.result.now c.args.controllers c.len-hosts.result owners c.requires.switches))
