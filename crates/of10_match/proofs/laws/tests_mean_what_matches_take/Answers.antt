-- The tests of matches say what they stand for.
use Rattle.of10_match.proofs.MatchLaws.{covers-Covers, overlaps-Overlaps, takes-Takes}
use Rattle.of10_match.proofs.laws.tests_mean_what_matches_take.Goals as goal

pub returns-clause-takes : goal.returns-clause-takes
returns-clause-takes c = takes-Takes

pub returns-clause-covers : goal.returns-clause-covers
returns-clause-covers c = covers-Covers

pub returns-clause-overlaps : goal.returns-clause-overlaps
returns-clause-overlaps c = overlaps-Overlaps
