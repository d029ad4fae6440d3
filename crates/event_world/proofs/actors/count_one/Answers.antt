-- One is added where the host's count stands.
use Rattle.event_world.proofs.Giving.{counted_one}
use Rattle.event_world.proofs.actors.count_one.Goals as goal

pub returns : goal.returns
returns c = counted_one c.args.received.now c.deref.result.now c.replace.new.self c.args.h c.from-at.result c.deref.ensures c.from-at.ensures c.requires.host c.replace.ensures
