use Rattle.std.proofs.Common.{arith}
use Rattle.std.proofs.lemmas.Bool.{eq-eqb, eqb-true}
use Rattle.number_set.proofs.Search.{empty_summary, summary_empty}
use Rattle.number_set.proofs.set.NumberSet.is_empty.Goals as goal

pub returns : goal.returns
returns c = rw (← c.self.view_is) (
  λ is. empty_summary _ _ _ c.self.invariant (eqb-true _ _ is),
  λ all. eq-eqb _ _ (summary_empty _ _ _ c.self.invariant (omega arith) all),
)
