use Rattle.std.proofs.Common.{◌≡◌, ◌∙◌, length, ap, arith}
use Rattle.std.specs.Prelude.{slice_index_or}
use Rattle.std.proofs.lemmas.List.{get_or_default}
use Rattle.pool_book.specs.Places.{Network, port_start}
use Rattle.pool_book.proofs.Reach.{switch_nowhere, switch_reaches}
use Rattle.pool_book.proofs.layout.Layout.switch_reach.Goals as goal

pub returns-then-at-len : goal.returns-then-at-len
returns-then-at-len c = let ports = ap (λ (n : Network). length n.ports) c.self.view_is in switch_nowhere c.args.self.now c.args.s (omega arith)

pub returns : goal.returns
returns c =
    let ports : c.self.inside.ports.items ≡ c.args.self.now.ports = ap (λ (n : Network). n.ports) c.self.view_is in
    let many = ap length ports in
    let starts = c.self.inside.starts.items in
    let at = c.from-at.result in
    let start : c.index-start.result.now ≡ port_start c.args.self.now.ports c.args.s =
    c.index-start.ensures ∙ get_or_default starts at c.index-start.result.now 0 (omega arith) ∙ c.self.invariant.each at (omega arith) ∙ ap (λ p. port_start p at) ports ∙ ap (port_start c.args.self.now.ports) c.from-at.ensures in
    let count : c.from.result ≡ slice_index_or c.args.self.now.ports c.args.s c.from.result = cc in
    switch_reaches c.args.self.now c.args.s c.numbers.result.start c.numbers.result.end c.from.result c.numbers-2.result.start c.numbers-2.result.end c.numbers-3.result.start c.numbers-3.result.end
    (omega arith) (omega arith) (omega arith) count (c.numbers-2.ensures.start ∙ start) (omega arith) (omega arith) (omega arith)
