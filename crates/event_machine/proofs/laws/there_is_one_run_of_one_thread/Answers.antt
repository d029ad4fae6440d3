use Rattle.event_machine.proofs.OneThread.{one_run}
use Rattle.event_machine.proofs.laws.there_is_one_run_of_one_thread.Goals as goal

pub returns : goal.returns
returns g c = one_run g.C.Controller.react g.C.Controller.start
