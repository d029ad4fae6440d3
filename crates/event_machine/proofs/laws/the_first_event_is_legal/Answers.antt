use Rattle.event_machine.proofs.FirstEvents.{actor_of_first, legal_first}
use Rattle.event_machine.proofs.laws.the_first_event_is_legal.Goals as goal

pub returns-clause-legal : goal.returns-clause-legal
returns-clause-legal g c = λ setup world who event fits first. legal_first setup world who event fits.shared.names first

pub returns-clause-actor : goal.returns-clause-actor
returns-clause-actor g c = actor_of_first
