-- What is read is valid, since the matches in it are.
use Rattle.of10_messages.proofs.ReadValid.{read_valid}
use Rattle.of10_messages.proofs.laws.bytes_hold_valid_messages.Goals as goal

pub returns : goal.returns
returns c bytes m range reads = read_valid c.bytes_hold_valid_matches.ensures bytes m (record { each = range }) reads
