-- A range gives its numbers.
use Rattle.std.proofs.Common.{◌∙◌, refl}
use Rattle.std.proofs.Math.Nat.{sub-zero}
use Rattle.std.proofs.lemmas.Iterator.{YieldsList-from_range, items_from_collect}
use Rattle.input_atoms.proofs.reduction.numbers.Goals as goal

pub returns : goal.returns
returns c =
    let all = items_from_collect c.collect.result c.collect.ensures.ran (YieldsList-from_range 0 c.args.n c.args.n refl (sub-zero c.args.n)) in
    c.of.ensures ∙ (rw c.in_ok-numbers.was at all)
