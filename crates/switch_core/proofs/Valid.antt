-- Messages that are built are valid.
use Rattle.std.proofs.Common.{◌≡◌, ◌-◌, ◌<◌, ◌^◌, ℕ, length, subst, sym, arith}
use Rattle.flow_table.specs.Entry.{IsValidEntry}
use Rattle.flow_table.specs.declared.entry.Entry.{Entry}
use Rattle.of10_messages.specs.Lengths.{message_len}
use Rattle.of10_messages.specs.Valid.{HasValidBody, IsValidMessage}
use Rattle.of10_messages.specs.Wire.{canon_bytes}
use Rattle.of10_messages.specs.declared.message.Message.{Message}
use Rattle.switch_core.specs.Leaving.{told}
use Rattle.switch_core.specs.declared.leaving.News.TheVariants.{Removal}

-- the FLOW_REMOVED of a valid entry
pub valid_removal : (xid : ℕ) (entry : Entry) (reason now : ℕ) → ((m : Message) → HasValidBody m → length (canon_bytes m) ≡ message_len m)
    → IsValidEntry entry → xid < 2 ^ 32 → reason < 2 ^ 8 → now < 2 ^ 32 → IsValidMessage (told xid (Removal entry reason now))
valid_removal xid entry reason now lengths valid xid_fits reason_fits now_fits =
    let m : Message = told xid (Removal entry reason now) in
    let duration : now - entry.added < 2 ^ 32 = omega (arith, now_fits) in
    let body : HasValidBody m =
    (valid.matches, valid.cookie, valid.priority, reason_fits, duration, omega arith, valid.idle, valid.packets, valid.bytes) in
    record { xid = xid_fits; body = body; length = subst (λ (n : ℕ). n < 2 ^ 16) (sym (lengths m body)) (omega arith) }
