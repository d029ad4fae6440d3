use Rattle.run_recorder.proofs.Offers.{due_of}
use Rattle.run_recorder.proofs.tests.offered.Goals as goal

pub returns-in-Work-clause-due : goal.returns-in-Work-clause-due
returns-in-Work-clause-due g c =
    due_of _ _ c.offer.new.part c.in-Work.task c.work.result c.work.ensures
    (c.an_offer_is_due.ensures c.args.part.now c.offer.new.part c.args.actor c.in-Work.task (c.has.ensures.0 c.if-not-has.false) c.in-Work.ensures.answer)
