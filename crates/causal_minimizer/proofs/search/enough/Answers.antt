-- What fails, and what is left of it.
use Rattle.std.proofs.lemmas.Result.{IfOk-weaker}
use Rattle.input_atoms.proofs.Minimal.{fails_on}
use Rattle.causal_minimizer.specs.Failing.{nothing, some}
use Rattle.causal_minimizer.proofs.search.enough.Goals as goal

pub returns-then-branch-clause-enough : goal.returns-then-branch-clause-enough
returns-then-branch-clause-enough g c = rw c.new.ensures (nothing (rw c.if-branch.true at c.in_ok-ends_in_violation.ensures))

pub returns-clause-enough : goal.returns-clause-enough
returns-clause-enough g c = IfOk-weaker c.left_of_all.result _ _ (λ left reduced. some left (rw c.if-branch.false at c.in_ok-ends_in_violation.ensures) (rw c.requires.own at reduced)) c.left_of_all.ensures

pub returns-clause-fails : goal.returns-clause-fails
returns-clause-fails g c = IfOk-weaker c.left_of_all.result _ _ (λ left reduced. fails_on reduced c.requires.all) c.left_of_all.ensures
