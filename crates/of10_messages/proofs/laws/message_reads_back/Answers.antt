-- What is written is read back.
use Rattle.of10_messages.proofs.RoundTripBodies.{reads_from}
use Rattle.of10_messages.proofs.RoundTripMessages.{message_reads}
use Rattle.of10_messages.proofs.laws.message_reads_back.Goals as goal

pub returns : goal.returns
returns c m v = reads_from m v (message_reads c.match_reads_back.ensures.back m v)
