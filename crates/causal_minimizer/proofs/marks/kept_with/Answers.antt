-- From flags of which none is set.
use Rattle.std.proofs.Common.{◌∙◌}
use Rattle.std.proofs.lemmas.List.{drop_all}
use Rattle.causal_minimizer.proofs.Flags.{all_marked}
use Rattle.causal_minimizer.proofs.marks.kept_with.Goals as goal

pub returns : goal.returns
returns c = (rw (drop_all c.loop-number.number-index c.args.numbers.now c.loop-number-test.false) at c.loop-number.invariant) ∙ all_marked c.args.atoms.now c.args.numbers.now c.args.lines
