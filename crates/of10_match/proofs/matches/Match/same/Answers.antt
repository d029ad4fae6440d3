-- Two matches are equal where `==` says so.
use Rattle.std.proofs.Common.{◌∙◌, sym}
use Rattle.of10_match.specs.Match.{same}
use Rattle.of10_match.proofs.MatchLaws.{same-≡}
use Rattle.of10_match.proofs.matches.Match.same.Goals as goal

pub returns-clause-equal : goal.returns-clause-equal
unfolding same
returns-clause-equal c =
    let law = same-≡ c.args.self.now c.args.other.now in
    (λ t. law.0 (sym c.eq.ensures ∙ t), λ e. c.eq.ensures ∙ law.1 e)
