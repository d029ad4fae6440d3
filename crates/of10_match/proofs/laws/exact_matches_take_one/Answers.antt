-- A match without a wildcard takes one port and one header.
use Rattle.of10_match.proofs.ExactLaws.{exact-one}
use Rattle.of10_match.proofs.laws.exact_matches_take_one.Goals as goal

pub returns : goal.returns
returns c = exact-one
