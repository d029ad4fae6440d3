-- What a match takes is taken by it.
use Rattle.of10_match.proofs.MatchLaws.{covers-itself, overlaps-itself}
use Rattle.of10_match.proofs.laws.a_match_covers_itself.Goals as goal

pub returns-clause-covers : goal.returns-clause-covers
returns-clause-covers c = covers-itself

pub returns-clause-overlaps : goal.returns-clause-overlaps
returns-clause-overlaps c = overlaps-itself
