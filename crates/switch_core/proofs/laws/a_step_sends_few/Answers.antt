-- By the number of things that leave.
use Rattle.switch_core.proofs.Few.{message_few, notice_few, received_few}
use Rattle.switch_core.proofs.laws.a_step_sends_few.Goals as goal

pub returns-clause-message : goal.returns-clause-message
returns-clause-message c = message_few c.lengths_of_messages.ensures

pub returns-clause-packet : goal.returns-clause-packet
returns-clause-packet c = received_few

pub returns-clause-notice : goal.returns-clause-notice
returns-clause-notice c = notice_few
