use Rattle.run_recorder.specs.Recording.{world_at}
use Rattle.run_recorder.proofs.Offers.{offer_due}
use Rattle.run_recorder.proofs.laws.an_offer_is_due.Goals as goal

pub returns : goal.returns
returns g c = λ old new who task has answer.
    let same = c.the_first_event_is_legal.ensures.actor new.setup (world_at g.C.Controller.react g.C.Controller.start new.setup new.view.seen) who task.event answer.1.1 in
    offer_due g.C.Controller.react g.C.Controller.start old new who task same has answer
