-- By the lengths of the parts, type by type.
use Rattle.of10_messages.proofs.Sizes.{length_message}
use Rattle.of10_messages.proofs.laws.lengths_of_messages.Goals as goal

pub returns : goal.returns
returns c = length_message
