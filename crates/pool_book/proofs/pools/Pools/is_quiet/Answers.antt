use Rattle.std.proofs.Common.{◌≡◌, false, All, subst}
use Rattle.std.specs.Prelude.{IsTrue, ◌↔◌}
use Rattle.pool_book.specs.Pools.{IsQuiet, queues}
use Rattle.pool_book.proofs.Waiting.{quiet_marks}
use Rattle.pool_book.proofs.pools.Pools.is_quiet.Goals as goal

pub returns : goal.returns
returns c =
    let both = quiet_marks c.self.inside.pools in
    let empty = subst (λ flags. IsTrue c.is_empty.result ↔ All (λ flag. flag ≡ false) flags) c.self.invariant.marked c.is_empty.ensures in
    subst (λ pools. IsTrue c.is_empty.result ↔ IsQuiet (queues pools)) c.self.view_is (λ holds. both.0 (empty.0 holds), λ quiet. empty.1 (both.1 quiet))
