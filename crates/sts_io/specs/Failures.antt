-- What a failed write tells.
use Rattle.std.specs.Prelude.{ℕ}
use Rattle.sts_io.specs.declared.writing.WriteFail.{WriteFail}
use Rattle.sts_io.specs.declared.writing.WriteFail.TheVariants.{Fault}

-- how many bytes the sink had taken before the fault
abbrev pub gone_of : WriteFail → ℕ
gone_of (Fault gone) = gone
