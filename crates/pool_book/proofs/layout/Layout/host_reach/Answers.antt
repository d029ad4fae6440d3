use Rattle.std.proofs.Common.{ap, arith}
use Rattle.pool_book.specs.Places.{Network}
use Rattle.pool_book.proofs.Reach.{host_nowhere, host_reaches}
use Rattle.pool_book.proofs.layout.Layout.host_reach.Goals as goal

pub returns-then-h-self : goal.returns-then-h-self
returns-then-h-self c = let hosts = ap (λ (n : Network). n.hosts) c.self.view_is in host_nowhere c.args.self.now c.args.h (omega arith)

pub returns : goal.returns
returns c =
    let hosts = ap (λ (n : Network). n.hosts) c.self.view_is in
    host_reaches c.args.self.now c.args.h c.numbers.result.start c.numbers.result.end (omega arith) (omega arith) (omega arith)
