use Rattle.std.proofs.Common.{arith}
use Rattle.std.proofs.lemmas.Bool.{ltb-true}
use Rattle.number_set.proofs.Places.{member_read, no_member}
use Rattle.number_set.proofs.set.NumberSet.contains.Goals as goal

pub returns-then-at-len : goal.returns-then-at-len
returns-then-at-len c =
    let read = member_read _ _ _ c.args.number _ _ c.self.invariant c.self.view_is (omega arith) c.index.ensures in
    (λ is. read.0 (c.has_bit.ensures.0 is), λ member. c.has_bit.ensures.1 (read.1 member))

pub returns-else-at-len : goal.returns-else-at-len
returns-else-at-len c = (
  λ is. let less = ltb-true _ _ is in absurd (omega arith),
  λ member. absurd (no_member _ _ _ c.args.number _ c.self.invariant c.self.view_is (omega arith) member),
)
