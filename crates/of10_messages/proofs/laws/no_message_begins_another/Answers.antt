-- The length in the header is that of both.
use Rattle.of10_messages.proofs.Accepted.{no_more}
use Rattle.of10_messages.proofs.laws.no_message_begins_another.Goals as goal

pub returns : goal.returns
returns c = no_more
