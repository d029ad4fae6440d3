-- What the length of a message says of its parts.
use Rattle.std.proofs.Common.{◌≡◌, ◌+◌, ◌≤◌, ℕ, Bool, true, false, List, length, drop, slice_index, None, nat_le, refl, subst, arith}
use Rattle.std.proofs.lemmas.Bool.{and_parts, eqb-true, leb-true}
use Rattle.byteorder.specs.Endian.{big_from}
use Rattle.of10_messages.proofs.Accepted.{no_bad}
use Rattle.of10_messages.specs.Refusal.{IsAccepted, bad_action_of_kind, first_bad, has_body, has_body_of_kind, is_fixed, least_length, out_actions}

-- the length by the type in the header
body_at : (bytes : List ℕ) (kind : ℕ) → has_body bytes ≡ true → slice_index bytes 1 ≡ kind → has_body_of_kind kind bytes ≡ true
unfolding has_body
body_at bytes kind body is = subst (λ (k : ℕ). has_body_of_kind k bytes ≡ true) is body

-- a message has at least the length of its type
pub least : (bytes : List ℕ) → has_body bytes ≡ true → least_length (slice_index bytes 1) ≤ length bytes
unfolding has_body
least bytes body = chosen (is_fixed (slice_index bytes 1)) refl where
  chosen : (fixed : Bool) → is_fixed (slice_index bytes 1) ≡ fixed → least_length (slice_index bytes 1) ≤ length bytes
  chosen true test = let one = rw test at body in let same = eqb-true (length bytes) (least_length (slice_index bytes 1)) one in omega (arith, same)
  chosen false test = let both = rw test at body in leb-true (least_length (slice_index bytes 1)) (length bytes) (and_parts _ _ both).0

pub least_of : (bytes : List ℕ) (kind : ℕ) → has_body bytes ≡ true → slice_index bytes 1 ≡ kind → least_length kind ≤ length bytes
least_of bytes kind body is = subst (λ (k : ℕ). least_length k ≤ length bytes) is (least bytes body)

-- the actions of a PACKET_OUT end within it
pub out_room : (bytes : List ℕ) → has_body bytes ≡ true → slice_index bytes 1 ≡ 13 → 16 + big_from 14 2 bytes ≤ length bytes
out_room bytes body is =
    let at : has_body_of_kind 13 bytes ≡ true = body_at bytes 13 body is in
    leb-true (16 + big_from 14 2 bytes) (length bytes) (and_parts (nat_le 16 (length bytes)) _ at).1

-- no action of a message that is not refused is bad
pub out_good : (bytes : List ℕ) → IsAccepted bytes → slice_index bytes 1 ≡ 13 → first_bad (out_actions bytes) ≡ None
out_good bytes accepted is = no_bad 16 (out_actions bytes) (subst (λ (k : ℕ). bad_action_of_kind k bytes ≡ None) is accepted.actions)

pub mods_good : (bytes : List ℕ) → IsAccepted bytes → slice_index bytes 1 ≡ 14 → first_bad (drop 72 bytes) ≡ None
mods_good bytes accepted is = no_bad 72 (drop 72 bytes) (subst (λ (k : ℕ). bad_action_of_kind k bytes ≡ None) is accepted.actions)
