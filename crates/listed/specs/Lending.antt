-- What a list ends as, where one of its elements was lent for a change in place.
use Rattle.std.specs.Prelude.{ℕ, List, slice_set}
use Rattle.std.specs.Borrow.{Lends, Fml, RattleType, MutBor}
use Rattle.listed.specs.contracts.list.Listed.{the_row}

-- once the borrow r ends, the place has the last value written through r, and the others are as they were
abbrev pub LendsItem : (T : RattleType) → MutBor (List T.Denot) → ℕ → MutBor T.Denot → Fml
LendsItem T l at r = Lends (the_row T) T l r (slice_set l.now at)
