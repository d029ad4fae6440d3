use Rattle.std.proofs.Common.{◌≡◌, List, length}
use Rattle.event_world.specs.declared.event.Event.{Event}
use Rattle.causal_replay.specs.Going.{Waits}
use Rattle.causal_replay.proofs.replayed.Replayed.awaited.Given as goal

abbrev pub invariant-loop : goal.invariant-loop
invariant-loop g l =
    (extra : List Event) × (length extra ≡ l.counter) × Waits g.C.Controller.react g.C.Controller.policies l.setup l.entry extra l.initial.self.run l.self.run l.initial.self.world l.self.world
    × (l.self.absent ≡ l.initial.self.absent) × (l.end ≡ l.setup.limits.budget)
