-- What is written after the headers of messages is read back: messages of plain fields.
use Rattle.std.proofs.Common.{◌≡◌, ◌+◌, ◌<◌, ◌≤◌, ◌^◌, ◌&&◌, ◌∙◌, ℕ, true, List, [], length, drop, slice_index, None, nat_le, refl, sym, ap, subst, arith, inl, inr}
use Rattle.std.proofs.lemmas.Bool.{and_from, cases_eq, eq-eqb, le-leb, le-ltb, not_from_true}
use Rattle.byteorder.specs.Endian.{big_from}
use Rattle.byteorder.specs.Numbers.{big_number-reads_back}
use Rattle.of10_messages.specs.Reading.{Reads, message_of, message_of_kind}
use Rattle.of10_messages.specs.Refusal.{IsAccepted, bad_action_of_kind, has_body, has_body_of_kind, refusal_of}
use Rattle.of10_messages.specs.Valid.{IsOtherKind, IsValidMessage}
use Rattle.of10_messages.specs.Wire.{body_bytes, canon_bytes, message_kind, message_xid}
use Rattle.of10_messages.specs.declared.message.Message.{Message}
use Rattle.of10_messages.specs.declared.message.Message.TheVariants as message

-- bytes are not refused by their parts
pub not_refused : (bytes : List ℕ) → IsAccepted bytes → refusal_of bytes ≡ None
unfolding refusal_of
not_refused bytes accepted =
    rw (
      le-ltb (length bytes) 8 accepted.header,
      not_from_true _ (eq-eqb (slice_index bytes 0) 1 accepted.version),
      not_from_true _ (eq-eqb (big_from 2 2 bytes) (length bytes) accepted.told),
      le-ltb 21 (slice_index bytes 1) accepted.kind,
      not_from_true _ accepted.body,
    ) accepted.actions

-- what holds of the bytes of a message that is read back, after its header
pub record BodyReads (m : Message) : Type 0 where
  pub kind : message_kind m ≤ 21
  pub body : has_body_of_kind (message_kind m) (canon_bytes m) ≡ true
  pub actions : bad_action_of_kind (message_kind m) (canon_bytes m) ≡ None
  pub fields : message_of_kind (message_kind m) (message_xid m) (canon_bytes m) ≡ m

-- a message is read back where its body is
pub reads_from : (m : Message) → IsValidMessage m → BodyReads m → Reads (canon_bytes m) m
unfolding canon_bytes message_of has_body
reads_from m v reads =
    let bytes = canon_bytes m in
    let size : 8 + length (body_bytes m) ≡ length bytes = omega arith in
    let xid_is : big_from 4 4 bytes ≡ message_xid m = big_number-reads_back 4 (message_xid m) [] v.xid in
    let told : big_from 2 2 bytes ≡ 8 + length (body_bytes m) = big_number-reads_back 2 (8 + length (body_bytes m)) [] (omega (arith, v.length)) in
    record {
      accepted = not_refused bytes (record {
        header = omega arith;
        version = refl;
        told = told ∙ size;
        kind = reads.kind;
        body = reads.body;
        actions = reads.actions;
      });
      fields = sym (ap (λ (xid : ℕ). message_of_kind (message_kind m) xid bytes) xid_is ∙ reads.fields);
    }

-- a body of any length
pub at_least : (least : ℕ) (bytes : List ℕ) → least ≤ length bytes → (nat_le least (length bytes) && true) ≡ true
at_least least bytes enough = and_from _ _ (le-leb least (length bytes) enough) refl

-- ---- bodies without a match, ports or actions

pub hello_reads : (xid : ℕ) → BodyReads (message.Hello xid)
unfolding canon_bytes
hello_reads xid = record { kind = omega arith; body = refl; actions = refl; fields = refl }

pub error_reads : (xid kind code : ℕ) (content : List ℕ) → kind < 2 ^ 16 → code < 2 ^ 16 → BodyReads (message.Error xid kind code content)
unfolding canon_bytes
error_reads xid kind code content kind_fits code_fits =
    let bytes = canon_bytes (message.Error xid kind code content) in
    let kind_is : big_from 8 2 bytes ≡ kind = big_number-reads_back 2 kind [] kind_fits in
    let code_is : big_from 10 2 bytes ≡ code = big_number-reads_back 2 code [] code_fits in
    record {
      kind = omega arith;
      body = at_least 12 bytes (omega arith);
      actions = refl;
      fields = rw (kind_is, code_is) refl;
    }

pub echo_request_reads : (xid : ℕ) (content : List ℕ) → BodyReads (message.EchoRequest xid content)
unfolding canon_bytes
echo_request_reads xid content = record {
  kind = omega arith;
  body = at_least 8 (canon_bytes (message.EchoRequest xid content)) (omega arith);
  actions = refl;
  fields = refl;
}

pub echo_reply_reads : (xid : ℕ) (content : List ℕ) → BodyReads (message.EchoReply xid content)
unfolding canon_bytes
echo_reply_reads xid content = record {
  kind = omega arith;
  body = at_least 8 (canon_bytes (message.EchoReply xid content)) (omega arith);
  actions = refl;
  fields = refl;
}

pub features_request_reads : (xid : ℕ) → BodyReads (message.FeaturesRequest xid)
unfolding canon_bytes
features_request_reads xid = record { kind = omega arith; body = refl; actions = refl; fields = refl }

pub config_request_reads : (xid : ℕ) → BodyReads (message.GetConfigRequest xid)
unfolding canon_bytes
config_request_reads xid = record { kind = omega arith; body = refl; actions = refl; fields = refl }

pub config_reply_reads : (xid flags miss_send_len : ℕ) → flags < 2 ^ 16 → miss_send_len < 2 ^ 16 → BodyReads (message.GetConfigReply xid flags miss_send_len)
unfolding canon_bytes
config_reply_reads xid flags miss_send_len flags_fits len_fits =
    let bytes = canon_bytes (message.GetConfigReply xid flags miss_send_len) in
    let flags_is : big_from 8 2 bytes ≡ flags = big_number-reads_back 2 flags [] flags_fits in
    let len_is : big_from 10 2 bytes ≡ miss_send_len = big_number-reads_back 2 miss_send_len [] len_fits in
    record { kind = omega arith; body = refl; actions = refl; fields = rw (flags_is, len_is) refl }

pub set_config_reads : (xid flags miss_send_len : ℕ) → flags < 2 ^ 16 → miss_send_len < 2 ^ 16 → BodyReads (message.SetConfig xid flags miss_send_len)
unfolding canon_bytes
set_config_reads xid flags miss_send_len flags_fits len_fits =
    let bytes = canon_bytes (message.SetConfig xid flags miss_send_len) in
    let flags_is : big_from 8 2 bytes ≡ flags = big_number-reads_back 2 flags [] flags_fits in
    let len_is : big_from 10 2 bytes ≡ miss_send_len = big_number-reads_back 2 miss_send_len [] len_fits in
    record { kind = omega arith; body = refl; actions = refl; fields = rw (flags_is, len_is) refl }

pub packet_in_reads : (xid buffer_id total_len in_port reason : ℕ) (content : List ℕ) → buffer_id < 2 ^ 32 → total_len < 2 ^ 16 → in_port < 2 ^ 16
    → BodyReads (message.PacketIn xid buffer_id total_len in_port reason content)
unfolding canon_bytes
packet_in_reads xid buffer_id total_len in_port reason content buffer_fits len_fits port_fits =
    let bytes = canon_bytes (message.PacketIn xid buffer_id total_len in_port reason content) in
    let buffer_is : big_from 8 4 bytes ≡ buffer_id = big_number-reads_back 4 buffer_id [] buffer_fits in
    let len_is : big_from 12 2 bytes ≡ total_len = big_number-reads_back 2 total_len [] len_fits in
    let port_is : big_from 14 2 bytes ≡ in_port = big_number-reads_back 2 in_port [] port_fits in
    record {
      kind = omega arith;
      body = at_least 18 bytes (omega arith);
      actions = refl;
      fields = rw (buffer_is, len_is, port_is) refl;
    }

pub barrier_request_reads : (xid : ℕ) → BodyReads (message.BarrierRequest xid)
unfolding canon_bytes
barrier_request_reads xid = record { kind = omega arith; body = refl; actions = refl; fields = refl }

pub barrier_reply_reads : (xid : ℕ) → BodyReads (message.BarrierReply xid)
unfolding canon_bytes
barrier_reply_reads xid = record { kind = omega arith; body = refl; actions = refl; fields = refl }

-- ---- bodies that are kept as they are

-- what holds of each type of an undecoded body
record IsKept (xid k : ℕ) (bytes : List ℕ) : Type 0 where
  kind : k ≤ 21
  body : has_body_of_kind k bytes ≡ (nat_le 8 (length bytes) && true)
  actions : bad_action_of_kind k bytes ≡ None
  fields : message_of_kind k xid bytes ≡ message.Other xid k (drop 8 bytes)

-- what holds of the types of undecoded bodies, one by one
other_kinds : (P : ℕ → Type 0) → P 4 → P 15 → P 16 → P 17 → P 20 → P 21 → (k : ℕ) → IsOtherKind k → P k
other_kinds P p4 p15 p16 p17 p20 p21 k (inl is) = subst P (sym is) p4
other_kinds P p4 p15 p16 p17 p20 p21 k (inr (inl between)) = elim (cases_eq k 15) [
  | inl is ↦ subst P (sym is) p15
  | inr more ↦ elim (cases_eq k 16) [
    | inl is ↦ subst P (sym is) p16
    | inr most ↦ subst P (let e : 17 ≡ k = omega (arith, between.0, between.1) in e) p17
  ]
]
other_kinds P p4 p15 p16 p17 p20 p21 k (inr (inr between)) = elim (cases_eq k 20) [
  | inl is ↦ subst P (sym is) p20
  | inr more ↦ subst P (let e : 21 ≡ k = omega (arith, between.0, between.1) in e) p21
]

kept : (xid : ℕ) (bytes : List ℕ) (k : ℕ) → IsOtherKind k → IsKept xid k bytes
kept xid bytes = other_kinds (λ k. IsKept xid k bytes)
    (record { kind = omega arith; body = refl; actions = refl; fields = refl })
    (record { kind = omega arith; body = refl; actions = refl; fields = refl })
    (record { kind = omega arith; body = refl; actions = refl; fields = refl })
    (record { kind = omega arith; body = refl; actions = refl; fields = refl })
    (record { kind = omega arith; body = refl; actions = refl; fields = refl })
    (record { kind = omega arith; body = refl; actions = refl; fields = refl })

pub other_reads : (xid kind : ℕ) (body : List ℕ) → IsOtherKind kind → BodyReads (message.Other xid kind body)
unfolding canon_bytes
other_reads xid kind body other =
    let bytes = canon_bytes (message.Other xid kind body) in
    let of = kept xid bytes kind other in
    record {
      kind = of.kind;
      body = of.body ∙ at_least 8 bytes (omega arith);
      actions = of.actions;
      fields = of.fields;
    }
