-- What is read of bytes is valid by their law.
use Rattle.std.proofs.Common.{◌≡◌, ℕ, List, Result, Ok, Err, IfOk, None, arith, rules}
use Rattle.of10_messages.specs.Reading.{Reads, message_of}
use Rattle.of10_messages.specs.Refusal.{refusal_of}
use Rattle.of10_messages.specs.Valid.{IsValidMessage}
use Rattle.of10_messages.specs.declared.bad.BadMessage.{BadMessage}
use Rattle.of10_messages.specs.declared.message.Message.{Message}
use Rattle.of10_messages.proofs.reading.decode.Goals as goal

-- what is given of bytes that are not refused is valid where what they are read as is
given : (bytes : List ℕ) (result : Result Message BadMessage) → ((m : Message) → Reads bytes m → IsValidMessage m) → refusal_of bytes ≡ None
    → IfOk result (λ m. m ≡ message_of bytes) → IfOk result (λ m. IsValidMessage m)
given bytes (Ok m) valid accepted read = valid m (record { accepted = accepted; fields = read })
given bytes (Err e) valid accepted read = tt

pub returns-clause-valid : goal.returns-clause-valid
returns-clause-valid c =
    given c.args.bytes.now c.message_of.result (λ m reads. c.bytes_hold_valid_messages.ensures c.args.bytes.now m (λ i. omega (arith, c.type_inv.bytes i)) reads)
    (search rules) c.message_of.ensures.ok
