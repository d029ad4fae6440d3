-- The test says that the match takes the port and the header.
use Rattle.std.proofs.Common.{◌∙◌, sym}
use Rattle.of10_match.proofs.MatchLaws.{takes-Takes}
use Rattle.of10_match.proofs.matches.Match.matches.Goals as goal

pub returns-clause-takes : goal.returns-clause-takes
returns-clause-takes c =
    let law = takes-Takes c.args.self.now c.args.in_port c.args.header.now in
    (λ t. law.0 (sym c.each_takes.ensures ∙ t), λ h. c.each_takes.ensures ∙ law.1 h)
