-- Case by case of the step.
use Rattle.switch_core.proofs.Tells.{message_tells, notice_tells}
use Rattle.switch_core.proofs.laws.a_step_tells_few.Goals as goal

pub returns-clause-message : goal.returns-clause-message
returns-clause-message c = message_tells

pub returns-clause-notice : goal.returns-clause-notice
returns-clause-notice c = notice_tells
