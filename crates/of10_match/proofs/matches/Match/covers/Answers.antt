-- The test says that the match covers the other one.
use Rattle.std.proofs.Common.{◌∙◌, sym}
use Rattle.of10_match.proofs.MatchLaws.{covers-Covers}
use Rattle.of10_match.proofs.matches.Match.covers.Goals as goal

pub returns-clause-covers : goal.returns-clause-covers
returns-clause-covers c =
    let law = covers-Covers c.args.self.now c.args.other.now c.requires.valid c.requires.other in
    (λ t. law.0 (sym c.each_covers.ensures ∙ t), λ h. c.each_covers.ensures ∙ law.1 h)
