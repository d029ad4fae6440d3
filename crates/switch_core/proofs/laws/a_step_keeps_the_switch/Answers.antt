-- Case by case of the step.
use Rattle.switch_core.proofs.Lasting.{message_lasts, notice_lasts, packet_lasts}
use Rattle.switch_core.proofs.laws.a_step_keeps_the_switch.Goals as goal

pub returns-clause-message : goal.returns-clause-message
returns-clause-message c = message_lasts

pub returns-clause-packet : goal.returns-clause-packet
returns-clause-packet c = packet_lasts

pub returns-clause-notice : goal.returns-clause-notice
returns-clause-notice c = notice_lasts
