use Rattle.std.proofs.Common.{subst}
use Rattle.pool_book.specs.Places.{Found}
use Rattle.pool_book.proofs.Finding.{found}
use Rattle.pool_book.proofs.pools.Pools.number.Goals as goal

pub returns : goal.returns
returns c = subst (λ pools. Found c.args.name pools c.number.result) c.self.view_is (found c.self.inside.layout c.self.inside.pools c.self.inside.waiting c.args.name c.number.result c.self.invariant c.number.ensures)
