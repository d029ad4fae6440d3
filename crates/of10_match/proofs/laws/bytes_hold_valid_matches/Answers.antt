-- What is read is valid.
use Rattle.of10_match.proofs.WireLaws.{match_of-valid}
use Rattle.of10_match.proofs.laws.bytes_hold_valid_matches.Goals as goal

pub returns : goal.returns
returns c = match_of-valid
