-- Each message so far is valid.
use Rattle.std.proofs.Common.{All}
use Rattle.of10_messages.specs.Valid.{IsValidMessage}
use Rattle.sts_bench.proofs.messages.messages.Given as goal

abbrev pub invariant-loop-bytes : goal.invariant-loop-bytes
invariant-loop-bytes l = All (λ m. IsValidMessage m) l.messages.items
