-- One more link does not touch the row, and in the end none does.
use Rattle.std.proofs.Common.{◌≡◌, ◌∙◌, ℕ, Bool, arith, false, inl, inr, subst, sym}
use Rattle.std.proofs.lemmas.Bool.{cases_eq}
use Rattle.route_app.specs.Changes.{is_touched}
use Rattle.route_app.specs.Ways.{is_down}
use Rattle.route_app.proofs.Untouched.{all_untouched}
use Rattle.route_app.proofs.WaysIn.{link_at}
use Rattle.route_app.proofs.changes.is_stale.Goals as goal

pub loop-at-preserved : goal.loop-at-preserved
loop-at-preserved c = λ k from below.
    let row = c.args.row.now in
    let link = link_at c.args.wires.now c.loop-at.at in
    let here : is_touched row link (is_down c.args.before.now c.loop-at.at) (is_down c.args.now.now c.loop-at.at) ≡ false =
    subst (λ (t : Bool). is_touched row link t (is_down c.args.now.now c.loop-at.at) ≡ false) c.is_down-was.ensures
    (subst (λ (t : Bool). is_touched row link c.is_down-was.result t ≡ false) c.is_down-is.ensures (sym c.is_touched.ensures ∙ c.if-is_touched.false)) in
    elim (cases_eq k c.loop-at.at) [
      | inl same ↦ subst (λ (n : ℕ). is_touched row (link_at c.args.wires.now n) (is_down c.args.before.now n) (is_down c.args.now.now n) ≡ false) (sym same) here
      | inr apart ↦ c.loop-at.invariant k from (omega arith)
    ]

pub returns : goal.returns
returns c = λ is. all_untouched c.args.row.now c.args.wires.now c.args.before.now c.args.now.now c.args.span.0 c.args.span.1 c.loop-at.at c.requires.now c.requires.same (omega (arith, c.loop-at-test.false)) c.loop-at.invariant
