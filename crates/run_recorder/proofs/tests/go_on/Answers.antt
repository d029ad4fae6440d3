use Rattle.run_recorder.proofs.Offers.{due_of}
use Rattle.run_recorder.proofs.tests.go_on.Goals as goal

pub commit-requires-clause-due : goal.commit-requires-clause-due
commit-requires-clause-due c κs =
    due_of _ _ c.offer.new.part c.in-Work.task c.work.result c.work.ensures
    (c.an_offer_is_due.ensures c.args.part.now c.offer.new.part c.args.actor c.in-Work.task (c.has.ensures.0 c.if-not-has.false) c.in-Work.ensures.answer)
