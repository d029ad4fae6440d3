use Rattle.std.proofs.Common.{[], length, arith, refl}
use Rattle.event_machine.proofs.Histories.{events_all, sound_none, sound_on, world_front, world_on}
use Rattle.event_machine.proofs.laws.a_history_goes_on_by_a_legal_entry.Goals as goal

pub returns-clause-nothing : goal.returns-clause-nothing
returns-clause-nothing g c = λ setup. (sound_none g.C.Controller.react g.C.Controller.start setup [], refl)

pub returns-clause-sound : goal.returns-clause-sound
returns-clause-sound g c = sound_on g.C.Controller.react g.C.Controller.start

pub returns-clause-world : goal.returns-clause-world
returns-clause-world g c = world_on g.C.Controller.react g.C.Controller.start

pub returns-clause-events : goal.returns-clause-events
returns-clause-events g c = events_all g.C.Controller.react g.C.Controller.start

pub returns-clause-front : goal.returns-clause-front
returns-clause-front g c = λ setup entries more. world_front g.C.Controller.react g.C.Controller.start setup entries more (length entries) (omega arith)
