use Rattle.std.proofs.Common.{◌≡◌, ◌*◌, length, ap, arith}
use Rattle.pool_book.specs.Places.{Network}
use Rattle.pool_book.proofs.Reach.{controller_nowhere, controller_reaches}
use Rattle.pool_book.proofs.layout.Layout.controller_reach.Goals as goal

pub returns-then-c-self : goal.returns-then-c-self
returns-then-c-self c = let controllers = ap (λ (n : Network). n.controllers) c.self.view_is in controller_nowhere c.args.self.now c.args.c (omega arith)

pub returns : goal.returns
returns c =
    let controllers = ap (λ (n : Network). n.controllers) c.self.view_is in
    let ports = ap (λ (n : Network). length n.ports) c.self.view_is in
    let switches : c.len-switches.result ≡ length c.args.self.now.ports = omega arith in
    let product : c.from.result * c.len-switches.result ≡ c.args.c * length c.args.self.now.ports = cc in
    controller_reaches c.args.self.now c.args.c c.numbers.result.start c.numbers.result.end c.numbers-2.result.start c.numbers-2.result.end (omega arith) (omega arith) (omega arith) (omega arith) (omega arith)
