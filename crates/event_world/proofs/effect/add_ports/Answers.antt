-- The pool of one port more is added.
use Rattle.pool_book.specs.declared.name.PoolName.TheVariants.{Pkt}
use Rattle.event_world.proofs.Effects.{mapped_more}
use Rattle.event_world.proofs.effect.add_ports.Goals as goal

pub loop-place-preserved : goal.loop-place-preserved
loop-place-preserved c = mapped_more (Pkt c.args.s) c.args.names.now c.loop-place.names c.push.new.self c.loop-place.place c.loop-place.invariant c.in_ok-push.ensures.ok
