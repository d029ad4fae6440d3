-- Classes of headers.
use Rattle.std.specs.Prelude.{◌≡◌}
use Rattle.std.specs.List.{AllZip}
use Rattle.header_classes.specs.Interval.{IsInner}
use Rattle.invariant_check.specs.declared.class.Class.{Class}

-- a class round the same header that has no header more
pub record IsNarrowed (old new : Class) : Type 0 where
  pub header : new.header ≡ old.header
  pub inner : AllZip IsInner old.cell new.cell
