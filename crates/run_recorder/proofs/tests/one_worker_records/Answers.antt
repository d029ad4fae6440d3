use Rattle.run_recorder.proofs.tests.one_worker_records.Goals as goal

pub go_on-requires : goal.go_on-requires
go_on-requires g c = (c.in_ok-recorder.ensures.parts.each 1 c.remove-part.result c.remove-part.ensures.item).0
