-- What the closure tells is what the definition tells.
use Rattle.std.proofs.Common.{List, ℕ, subst}
use Rattle.causal_minimizer.specs.Failing.{Fails}
use Rattle.causal_minimizer.proofs.Left.{left_over}
use Rattle.causal_minimizer.proofs.search.left_of_all.Goals as goal

pub returns : goal.returns
returns g c =
    let fails = Fails g.C.Controller.react g.C.Controller.start c.args.setup.now c.args.trace.now c.args.invariant.now in
    let all = left_over c.ddmin.result _ fails _ 2 c.ddmin.ensures.reduced (λ list failed told. subst (λ (kept : List ℕ). fails kept failed) told.shows told.says.met) in
    rw c.len.ensures at all
