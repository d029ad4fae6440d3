-- One message more is valid.
use Rattle.std.proofs.Common.{arith}
use Rattle.std.proofs.lemmas.Grind.{common_steps}
use Rattle.std.proofs.lemmas.List.Elements.{All-push}
use Rattle.of10_messages.specs.Valid.{IsValidMessage}
use Rattle.switch_core.proofs.sending.Sending.send.Goals as goal

pub invariant_of-self-in_ok-push-in-Told-2 : goal.invariant_of-self-in_ok-push-in-Told-2
invariant_of-self-in_ok-push-in-Told-2 c = grind (arith, common_steps, All-push IsValidMessage)
