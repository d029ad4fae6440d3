use Rattle.std.proofs.Common.{◌∙◌, ap}
use Rattle.pool_book.specs.Pools.{queues}
use Rattle.pool_book.proofs.Finding.{copied}
use Rattle.pool_book.proofs.pools.Pools.copy.Goals as goal

pub invariant_of-result : goal.invariant_of-result
invariant_of-result c =
    copied c.self.inside.layout c.in_ok-layout.layout c.self.inside.pools c.in_ok-pools.pools c.self.inside.waiting c.in_ok-waiting.waiting c.self.invariant c.in_ok-layout.ensures (c.in_ok-pools.ensures ∙ ap queues c.as_slice.ensures) c.in_ok-waiting.ensures
