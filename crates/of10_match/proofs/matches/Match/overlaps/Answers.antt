-- The test says that the matches overlap.
use Rattle.std.proofs.Common.{◌∙◌, sym}
use Rattle.of10_match.proofs.MatchLaws.{overlaps-Overlaps}
use Rattle.of10_match.proofs.matches.Match.overlaps.Goals as goal

pub returns-clause-overlaps : goal.returns-clause-overlaps
returns-clause-overlaps c =
    let law = overlaps-Overlaps c.args.self.now c.args.other.now c.requires.valid c.requires.other in
    (λ t. law.0 (sym c.each_overlaps.ensures ∙ t), λ h. c.each_overlaps.ensures ∙ law.1 h)
