use Rattle.run_recorder.proofs.tests.one_worker_goes_round.Goals as goal

pub drive-left-requires-clause-part : goal.drive-left-requires-clause-part
drive-left-requires-clause-part g c κs = (c.in_ok-recorder.ensures.parts.each 1 c.remove-part.result c.remove-part.ensures.item).0
