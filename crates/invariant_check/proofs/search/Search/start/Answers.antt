-- A search begins with what its definition asks.
use Rattle.std.proofs.Common.{refl}
use Rattle.invariant_check.proofs.Turns.{starts}
use Rattle.invariant_check.proofs.search.Search.start.Goals as goal

pub returns-clause-at : goal.returns-clause-at
returns-clause-at c = λ invariant h.
    starts c.args.net.now invariant h c.args.s c.args.p record { top = c.in_ok-of.field-0; below = c.new.result; done = c.new-2.result }
    record { s = c.args.s; p = c.args.p; sets = c.none.result } c.in_ok-of.ensures.stop refl refl (c.none.ensures.same h) c.in_ok-of.ensures.next c.new.ensures.items c.new-2.ensures.items
