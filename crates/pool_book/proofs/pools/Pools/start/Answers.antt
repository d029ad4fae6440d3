use Rattle.std.proofs.Common.{◌≡◌, ◌∙◌, ◌≤◌, length, ap, arith, subst}
use Rattle.pool_book.specs.Names.{names}
use Rattle.pool_book.proofs.Finding.{length_made, started}
use Rattle.pool_book.specs.Order.{length_names}
use Rattle.pool_book.proofs.pools.Pools.start.Goals as goal

pub new-requires : goal.new-requires
new-requires c = let long = length_names c.args.ports.now c.args.controllers c.args.hosts in subst (λ n. n ≤ 4096) long c.requires

pub new-requires-2 : goal.new-requires-2
new-requires-2 c =
    let made = length_made c.in_ok-pools.pools c.as_slice.result.now c.in_ok-pools.ensures in
    let same = ap length (c.as_slice.ensures ∙ c.in_ok-names.ensures) in
    let few = c.requires in
    omega arith

pub invariant_of-result : goal.invariant_of-result
invariant_of-result c =
    let ports = c.in_ok-layout.ensures.ports in
    let controllers = c.in_ok-layout.ensures.controllers in
    let hosts = c.in_ok-layout.ensures.hosts in
    let layout = c.in_ok-layout.layout in
    let all : c.as_slice.result.now ≡ names layout.ports layout.controllers layout.hosts = let e = c.as_slice.ensures ∙ c.in_ok-names.ensures in cc in
    started layout c.as_slice.result.now c.in_ok-pools.pools c.in_ok-waiting.waiting c.len.result c.in_ok-pools.ensures all c.in_ok-waiting.ensures c.len.ensures
