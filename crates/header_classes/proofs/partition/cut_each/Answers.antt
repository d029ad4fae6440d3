-- One cell more is cut, or nothing is taken on another port.
use Rattle.std.proofs.Common.{◌∙◌, refl, sym}
use Rattle.of10_match.specs.Match.{takes}
use Rattle.header_classes.proofs.Classes.{other_port, rest_more, taken_more}
use Rattle.header_classes.proofs.partition.cut_each.Goals as goal

pub returns-then-not-takes_port-clause-taken : goal.returns-then-not-takes_port-clause-taken
returns-then-not-takes_port-clause-taken c = λ h. rw (c.new-taken.ensures, other_port c.args.matches.now c.args.in_port h (sym c.takes_port.ensures ∙ c.if-not-takes_port.true)) refl

pub returns-then-not-takes_port-clause-rest : goal.returns-then-not-takes_port-clause-rest
returns-then-not-takes_port-clause-rest c = λ h. rw (other_port c.args.matches.now c.args.in_port h (sym c.takes_port.ensures ∙ c.if-not-takes_port.true)) refl

pub loop-cell-preserved : goal.loop-cell-preserved
loop-cell-preserved c = record {
  taken = λ h. c.in_ok-add.ensures.headers h ∙ taken_more c.deref-cell-items.result.now c.loop-cell.cell-index c.cell-item.result h (takes c.args.matches.now c.args.in_port h) _ _
      c.loop-cell-test.true c.cell-item.is (c.loop-cell.invariant.taken h) (c.in_ok-part.ensures.taken h);
  rest = λ h. c.in_ok-part.ensures.rest h ∙ rest_more c.deref-cell-items.result.now c.loop-cell.cell-index c.cell-item.result h (takes c.args.matches.now c.args.in_port h)
      _ c.loop-cell-test.true c.cell-item.is (c.loop-cell.invariant.rest h);
}
