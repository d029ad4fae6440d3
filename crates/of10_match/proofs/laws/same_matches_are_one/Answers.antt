-- Matches with the same fields are one.
use Rattle.of10_match.proofs.MatchLaws.{same-≡}
use Rattle.of10_match.proofs.laws.same_matches_are_one.Goals as goal

pub returns : goal.returns
returns c = same-≡
