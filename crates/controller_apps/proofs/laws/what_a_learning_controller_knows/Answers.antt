use Rattle.controller_apps.proofs.Told.{knows_last}
use Rattle.controller_apps.proofs.laws.what_a_learning_controller_knows.Goals as goal

pub returns : goal.returns
returns c = knows_last
