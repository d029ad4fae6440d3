-- What is written is read back.
use Rattle.of10_match.proofs.WireLaws.{match_of-match_bytes}
use Rattle.of10_match.proofs.laws.match_reads_back.Goals as goal

pub returns-clause-back : goal.returns-clause-back
returns-clause-back c = match_of-match_bytes
