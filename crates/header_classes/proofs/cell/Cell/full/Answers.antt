-- Every valid header is taken, and no other is in a cell.
use Rattle.std.proofs.Common.{◌≡◌, ◌∙◌, ◌&&◌, true, nat_eq, sym, subst}
use Rattle.of10_match.specs.Field.{takes_by}
use Rattle.of10_match.specs.Match.{any_match, takes}
use Rattle.of10_match.specs.declared.matches.Match.{Match}
use Rattle.header_classes.specs.Cell.{in_cell}
use Rattle.header_classes.proofs.cell.Cell.full.Goals as goal

pub returns : goal.returns
returns c = λ h. (
  c.every_cell.ensures.valid h,
  λ valid.
      let all : takes any_match 0 h ≡ true = (c.tests_mean_what_matches_take.ensures.takes any_match 0 h).1 (c.any_match_takes_all.ensures 0 h) in
      let is = c.taken-cell.ensures 0 h valid in
      let cell : takes any_match 0 h ≡ (takes_by nat_eq any_match.in_port 0 && in_cell c.taken-cell.result h) =
      subst (λ (m : Match). takes m 0 h ≡ (takes_by nat_eq m.in_port 0 && in_cell c.taken-cell.result h)) c.any.ensures is in
      sym cell ∙ all,
)
