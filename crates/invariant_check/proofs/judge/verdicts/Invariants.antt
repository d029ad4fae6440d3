-- So far each invariant has its verdict.
use Rattle.std.proofs.Common.{take}
use Rattle.std.specs.List.{AllZip}
use Rattle.invariant_check.specs.Verdict.{IsVerdict}
use Rattle.invariant_check.proofs.judge.verdicts.Given as goal

abbrev pub invariant-loop-invariant : goal.invariant-loop-invariant
invariant-loop-invariant l = AllZip (λ invariant verdict. IsVerdict l.net invariant verdict) (take l.invariant-index l.list) l.verdicts
