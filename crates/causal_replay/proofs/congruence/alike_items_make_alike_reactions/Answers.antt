-- By masked reactions.
use Rattle.causal_replay.proofs.AlikeReaction.{alike_at_heard, alike_heard}
use Rattle.causal_replay.proofs.congruence.alike_items_make_alike_reactions.Goals as goal

pub returns-clause-messages : goal.returns-clause-messages
returns-clause-messages c = alike_heard

pub returns-clause-reactions : goal.returns-clause-reactions
returns-clause-reactions c = alike_at_heard
