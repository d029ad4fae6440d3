-- So far no host violates the invariant.
use Rattle.std.proofs.Common.{ℕ, ◌<◌}
use Rattle.of10_match.specs.declared.header.Header.{Header}
use Rattle.invariant_check.specs.Verdict.{Keeps}
use Rattle.invariant_check.proofs.judge.judged.Given as goal

abbrev pub invariant-loop-host : goal.invariant-loop-host
invariant-loop-host l = (host : ℕ) (h : Header) → host < l.host → Keeps l.net l.invariant' host h
