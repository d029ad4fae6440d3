-- By the lengths of the actions one by one.
use Rattle.of10_messages.proofs.Sizes.{length_actions}
use Rattle.of10_messages.proofs.laws.lengths_of_actions.Goals as goal

pub returns : goal.returns
returns c = length_actions
