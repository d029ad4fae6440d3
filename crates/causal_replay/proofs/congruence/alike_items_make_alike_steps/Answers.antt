-- By masked steps.
use Rattle.causal_replay.proofs.AlikeStep.{alike_at_message, alike_at_notice, alike_at_packet}
use Rattle.causal_replay.proofs.congruence.alike_items_make_alike_steps.Goals as goal

pub returns-clause-message : goal.returns-clause-message
returns-clause-message c = alike_at_message

pub returns-clause-packet : goal.returns-clause-packet
returns-clause-packet c = alike_at_packet

pub returns-clause-notice : goal.returns-clause-notice
returns-clause-notice c = alike_at_notice
