-- The message that was read is valid too.
use Rattle.std.proofs.Common.{arith}
use Rattle.std.proofs.lemmas.List.Elements.{All-push}
use Rattle.of10_messages.specs.Valid.{IsValidMessage}
use Rattle.sts_bench.proofs.messages.messages.Goals as goal

pub loop-bytes-preserved : goal.loop-bytes-preserved
loop-bytes-preserved c = grind (arith, All-push IsValidMessage)
