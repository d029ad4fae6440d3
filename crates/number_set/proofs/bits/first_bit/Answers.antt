use Rattle.std.proofs.Common.{arith}
use Rattle.number_set.proofs.Shifted.{first_past, none_past}
use Rattle.number_set.proofs.bits.first_bit.Goals as goal

pub returns-then-rest-eq0 : goal.returns-then-rest-eq0
returns-then-rest-eq0 c = λ bit at _. none_past c.args.word c.args.from c.if-rest-eq0.true bit at

pub returns : goal.returns
returns c = first_past c.args.word c.args.from (omega arith) (omega arith)
