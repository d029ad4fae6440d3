use Rattle.std.proofs.Common.{◌∙◌, arith, ap}
use Rattle.number_set.specs.Words.{flags_of}
use Rattle.number_set.proofs.Places.{flags_none, kept_none}
use Rattle.number_set.proofs.set.NumberSet.new.Goals as goal

pub invariant_of-result : goal.invariant_of-result
invariant_of-result c = rw (c.in_ok-words.ensures.items_if_clones_equal (λ y e. e)) (kept_none c.args.count c.div_ceil.result c.requires (omega arith) (omega arith))

pub returns : goal.returns
returns c = ap (flags_of c.args.count) (c.in_ok-words.ensures.items_if_clones_equal (λ y e. e)) ∙ flags_none c.args.count c.div_ceil.result
