use Rattle.std.proofs.Common.{rules}
use Rattle.run_recorder.specs.declared.answers.Offered.TheVariants as offer
use Rattle.run_recorder.proofs.Offers.{due_of}
use Rattle.run_recorder.proofs.Rounds.{has_kept, offer_busy, offer_ended, offer_nothing, offer_same, round_on, same_on}
use Rattle.run_recorder.proofs.recorder.Recorder.ask.Goals as goal

pub enter-requires-clause-due : goal.enter-requires-clause-due
enter-requires-clause-due g c κs within =
    due_of g.C.Controller.react g.C.Controller.start c.offer.new.part c.in-Work.task c.work.result c.work.ensures
    (c.an_offer_is_due.ensures c.args.part.now c.offer.new.part c.args.actor c.in-Work.task c.requires.has c.in-Work.ensures.answer)

pub returns-in-Work-clause-same : goal.returns-in-Work-clause-same
returns-in-Work-clause-same g c =
    same_on c.args.part.now c.offer.new.part c.enter.new.part
    (offer_same g.C.Controller.react g.C.Controller.start c.args.part.now c.offer.new.part c.args.actor (offer.Work c.in-Work.task) c.in-Work.ensures.answer) c.enter.ensures.same

pub returns-in-Work-clause-round : goal.returns-in-Work-clause-round
returns-in-Work-clause-round g c =
    round_on g.C.Controller.react g.C.Controller.start c.args.part.now c.offer.new.part c.enter.new.part c.args.actor c.in-Work.task c.enter.result c.in-Work.ensures.answer c.enter.ensures.same c.enter.ensures.round

pub actor_after-requires : goal.actor_after-requires
actor_after-requires g c = (
  search rules,
  (
    search rules,
    has_kept c.args.part.now c.offer.new.part c.args.actor
        (offer_same g.C.Controller.react g.C.Controller.start c.args.part.now c.offer.new.part c.args.actor (offer.NothingNow c.in-NothingNow.place) c.in-NothingNow.ensures.answer) c.requires.has,
  ),
)

pub returns-in-NothingNow-clause-same : goal.returns-in-NothingNow-clause-same
returns-in-NothingNow-clause-same g c =
    offer_same g.C.Controller.react g.C.Controller.start c.args.part.now c.offer.new.part c.args.actor (offer.NothingNow c.in-NothingNow.place) c.in-NothingNow.ensures.answer

pub returns-in-NothingNow-clause-round : goal.returns-in-NothingNow-clause-round
returns-in-NothingNow-clause-round g c =
    offer_nothing g.C.Controller.react g.C.Controller.start c.args.part.now c.offer.new.part c.args.actor c.actor_after.result c.in-NothingNow.place c.in-NothingNow.ensures.answer c.actor_after.ensures

pub returns-in-Ended-clause-same : goal.returns-in-Ended-clause-same
returns-in-Ended-clause-same g c =
    offer_same g.C.Controller.react g.C.Controller.start c.args.part.now c.offer.new.part c.args.actor (offer.Ended c.in-Ended.place) c.in-Ended.ensures.answer

pub returns-in-Ended-clause-round : goal.returns-in-Ended-clause-round
returns-in-Ended-clause-round g c =
    offer_ended g.C.Controller.react g.C.Controller.start c.args.part.now c.offer.new.part c.args.actor c.in-Ended.place c.in-Ended.ensures.answer

pub returns-in-Busy-clause-same : goal.returns-in-Busy-clause-same
returns-in-Busy-clause-same g c =
    offer_same g.C.Controller.react g.C.Controller.start c.args.part.now c.offer.new.part c.args.actor (offer.Busy c.in-Busy.looked c.in-Busy.found) c.in-Busy.ensures.answer

pub returns-in-Busy-clause-round : goal.returns-in-Busy-clause-round
returns-in-Busy-clause-round g c =
    offer_busy g.C.Controller.react g.C.Controller.start c.args.part.now c.offer.new.part c.args.actor c.in-Busy.looked c.in-Busy.found c.requires.has c.in-Busy.ensures.answer
