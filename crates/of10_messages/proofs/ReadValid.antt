-- What is read is valid, and its encoding is no longer than the bytes that were read.
use Rattle.std.proofs.Common.{◌≡◌, ◌+◌, ◌-◌, ◌/◌, ◌^◌, ◌<◌, ◌≤◌, ◌∙◌, ℕ, List, length, take, drop, slice_index, refl, sym, arith, inl, inr, subst, length-append, length-drop}
use Rattle.std.proofs.lemmas.List.{length-take}
use Rattle.byteorder.specs.Endian.{big_from}
use Rattle.byteorder.specs.Numbers.{big_from-lt}
use Rattle.of10_match.specs.Match.{IsValidMatch}
use Rattle.of10_match.specs.Wire.{match_of}
use Rattle.of10_messages.proofs.Accepted.{accepted}
use Rattle.of10_messages.proofs.Bodies.{least_of, mods_good, out_good, out_room}
use Rattle.of10_messages.specs.TypeCases.{up_to_21}
use Rattle.of10_messages.proofs.ReadParts.{Holds, are_bytes, fine_actions, held_drop, held_take, port_valid, ports_count, ports_valid}
use Rattle.of10_messages.proofs.Sizes.{length_features, length_flow_mod, length_match, length_port}
use Rattle.of10_messages.specs.Reading.{Reads, features_of, flow_mod_of, message_of, message_of_kind, port_of}
use Rattle.of10_messages.specs.Refusal.{IsAccepted, least_length, out_actions}
use Rattle.of10_messages.specs.Valid.{AreBytes, HasValidBody, IsOtherKind, IsValidFeatures, IsValidFlowMod, IsValidMessage}
use Rattle.of10_messages.specs.Wire.{actions_bytes, body_bytes, canon_bytes, message_xid, removal_fields}
use Rattle.of10_messages.specs.declared.message.Message.{Message}
use Rattle.of10_messages.specs.declared.message.Message.TheVariants as message

-- what forty bytes hold is a valid match
abbrev pub MatchesAreValid : Type 0
MatchesAreValid = (bytes : List ℕ) → ((i : ℕ) → slice_index bytes i < 256) → IsValidMatch (match_of bytes)

-- a message with this xid that is valid but for its length, which is no more than this
record Fine (m : Message) (number len : ℕ) : Type 0 where
  xid : message_xid m ≡ number
  body : HasValidBody m
  size : 8 + length (body_bytes m) ≤ len

-- the parts of FEATURES_REPLY and FLOW_MOD
features_valid : (bytes : List ℕ) → Holds bytes → IsValidFeatures (features_of bytes)
unfolding features_of
features_valid bytes h =
    let count = (length bytes - 32) / 48 in
    record {
      datapath_id = big_from-lt 8 8 bytes h.each;
      n_buffers = big_from-lt 16 4 bytes h.each;
      n_tables = h.each 20;
      capabilities = big_from-lt 24 4 bytes h.each;
      actions = big_from-lt 28 4 bytes h.each;
      ports = ports_valid count (drop 32 bytes) (held_drop 32 bytes h) (simp length-drop (omega arith));
    }

features_ports : (bytes : List ℕ) → length (features_of bytes).ports ≡ (length bytes - 32) / 48
unfolding features_of
features_ports bytes = ports_count ((length bytes - 32) / 48) (drop 32 bytes)

mods_size : (bytes : List ℕ) → Holds bytes → IsAccepted bytes → slice_index bytes 1 ≡ 14 → length (actions_bytes (flow_mod_of bytes).actions) ≡ length (drop 72 bytes)
unfolding flow_mod_of
mods_size bytes h a is = (fine_actions (drop 72 bytes) (held_drop 72 bytes h) (mods_good bytes a is)).size

module _ (matches_valid : MatchesAreValid) where
  match_valid : (n : ℕ) (bytes : List ℕ) → Holds bytes → IsValidMatch (match_of (take 40 (drop n bytes)))
  match_valid n bytes h = matches_valid (take 40 (drop n bytes)) (held_take 40 (drop n bytes) (held_drop n bytes h)).each

  mods_valid : (bytes : List ℕ) → Holds bytes → IsAccepted bytes → slice_index bytes 1 ≡ 14 → IsValidFlowMod (flow_mod_of bytes)
  unfolding flow_mod_of
  mods_valid bytes h a is =
      let two : (i : ℕ) → big_from i 2 bytes < 2 ^ 16 = λ i. big_from-lt i 2 bytes h.each in
      record {
        matches = match_valid 8 bytes h;
        cookie = big_from-lt 48 8 bytes h.each;
        command = two 56;
        idle_timeout = two 58;
        hard_timeout = two 60;
        priority = two 62;
        buffer_id = big_from-lt 64 4 bytes h.each;
        out_port = two 68;
        flags = two 70;
        actions = (fine_actions (drop 72 bytes) (held_drop 72 bytes h) (mods_good bytes a is)).valid;
      }

  -- by cases on the type in the header
  fine : (bytes : List ℕ) (xid : ℕ) → Holds bytes → IsAccepted bytes → Fine (message_of_kind (slice_index bytes 1) xid bytes) xid (length bytes)
  unfolding removal_fields
  fine bytes xid h a =
      let two : (i : ℕ) → big_from i 2 bytes < 2 ^ 16 = λ i. big_from-lt i 2 bytes h.each in
      let four : (i : ℕ) → big_from i 4 bytes < 2 ^ 32 = λ i. big_from-lt i 4 bytes h.each in
      let eight : (i : ℕ) → big_from i 8 bytes < 2 ^ 64 = λ i. big_from-lt i 8 bytes h.each in
      let least : (k : ℕ) → slice_index bytes 1 ≡ k → least_length k ≤ length bytes = λ k is. least_of bytes k a.body is in
      let rest : (n : ℕ) → AreBytes (drop n bytes) = λ n. are_bytes (drop n bytes) (held_drop n bytes h) in
      let other : (k : ℕ) → IsOtherKind k → Fine (message.Other xid k (drop 8 bytes)) xid (length bytes) = λ k kind.
      record { xid = refl; body = (kind, rest 8); size = omega (arith, a.header, length-drop 8 bytes) } in
      up_to_21 (λ (k : ℕ). slice_index bytes 1 ≡ k → Fine (message_of_kind k xid bytes) xid (length bytes))
      (λ is. record { xid = refl; body = tt; size = omega (arith, a.header) })
      (λ is. record { xid = refl; body = (two 8, two 10, rest 12); size = omega (arith, least 1 is, length-drop 12 bytes) })
      (λ is. record { xid = refl; body = rest 8; size = omega (arith, a.header, length-drop 8 bytes) })
      (λ is. record { xid = refl; body = rest 8; size = omega (arith, a.header, length-drop 8 bytes) })
      (λ is. other 4 (inl refl))
      (λ is. record { xid = refl; body = tt; size = omega (arith, a.header) })
      (λ is.
      let valid = features_valid bytes h in
      record { xid = refl; body = valid; size = omega (arith, least 6 is, length_features (features_of bytes) valid.ports, features_ports bytes) })
      (λ is. record { xid = refl; body = tt; size = omega (arith, a.header) })
      (λ is. record { xid = refl; body = (two 8, two 10); size = omega (arith, least 8 is) })
      (λ is. record { xid = refl; body = (two 8, two 10); size = omega (arith, least 9 is) })
      (λ is. record { xid = refl; body = (four 8, two 12, two 14, h.each 16, rest 18); size = omega (arith, least 10 is, length-drop 18 bytes) })
      (λ is. record {
        xid = refl;
        body = (match_valid 8 bytes h, eight 48, two 56, h.each 58, four 60, four 64, two 68, eight 72, eight 80);
        size = simp length-append (omega (arith, least 11 is, length_match (match_of (take 40 (drop 8 bytes)))));
      })
      (λ is.
      let port = port_valid (drop 16 bytes) (held_drop 16 bytes h) (simp length-drop (omega (arith, least 12 is))) in
      record { xid = refl; body = (h.each 8, port); size = omega (arith, least 12 is, length_port (port_of (drop 16 bytes)) port.name_length) })
      (λ is.
      let n = big_from 14 2 bytes in
      let after = drop 16 bytes in
      let room = out_room bytes a.body is in
      let within : length (out_actions bytes) ≡ n = simp (length-take, length-drop) (omega (arith, room)) in
      let actions = fine_actions (out_actions bytes) (held_take n after (held_drop 16 bytes h)) (out_good bytes a is) in
      let content = are_bytes (drop n after) (held_drop n after (held_drop 16 bytes h)) in
      let left : length (drop n after) ≡ length bytes - 16 - n = simp length-drop (omega arith) in
      record {
        xid = refl;
        body = (four 8, two 12, sym (actions.size ∙ within), actions.valid, content);
        size = simp length-append (omega (arith, room, left, actions.size, within));
      })
      (λ is.
      let mods = flow_mod_of bytes in
      record { xid = refl; body = mods_valid bytes h a is; size = omega (arith, least 14 is, length_flow_mod mods, mods_size bytes h a is, length-drop 72 bytes) })
      (λ is. other 15 (inr (inl (omega arith, omega arith))))
      (λ is. other 16 (inr (inl (omega arith, omega arith))))
      (λ is. other 17 (inr (inl (omega arith, omega arith))))
      (λ is. record { xid = refl; body = tt; size = omega (arith, a.header) })
      (λ is. record { xid = refl; body = tt; size = omega (arith, a.header) })
      (λ is. other 20 (inr (inr (omega arith, omega arith))))
      (λ is. other 21 (inr (inr (omega arith, omega arith))))
      (slice_index bytes 1) a.kind refl

  -- the length in the header is below 2 ^ 16, and the encoding is no longer
  pub read_valid : (bytes : List ℕ) (m : Message) → Holds bytes → Reads bytes m → IsValidMessage m
  unfolding message_of canon_bytes
  read_valid bytes m h reads =
      let a = accepted bytes reads.accepted in
      let xid : big_from 4 4 bytes < 2 ^ 32 = big_from-lt 4 4 bytes h.each in
      let said : big_from 2 2 bytes < 2 ^ 16 = big_from-lt 2 2 bytes h.each in
      let one = fine bytes (big_from 4 4 bytes) h a in
      let valid : IsValidMessage (message_of bytes) = record {
        xid = omega (arith, one.xid, xid);
        body = one.body;
        length = omega (arith, one.size, said, a.told);
      } in
      subst IsValidMessage (sym reads.fields) valid
