-- The forty bytes of a match are read as that match, and what is read is valid.
use Rattle.std.proofs.Common.{◌≡◌, ◌+◌, ◌-◌, ◌*◌, ◌/◌, ◌%◌, ◌^◌, ◌<◌, ◌≤◌, ◌∙◌, ◌==◌, ℕ, Bool, true, false, List, [], Option, Some, None, drop, slice_index, unwrap_or, bit_and, nat_le, if◌then◌else◌, refl, sym, ap, arith, lit<, lit≤, subst}
use Rattle.std.proofs.Math.Nat.{div-mul-le_self, mul-mod_left}
use Rattle.std.proofs.lemmas.Bool.{eq-eqb, eqb-true, leb-false, leb-true}
use Rattle.std.proofs.lemmas.Nat.{pow_pos, shr_split}
use Rattle.std.proofs.lemmas.Nat.Bits.{and_pow}
use Rattle.byteorder.specs.Endian.{big_from}
use Rattle.byteorder.specs.Numbers.{big_from-lt, big_number-reads_back}
use Rattle.std.specs.Int.{bit_at}
use Rattle.of10_match.proofs.FieldLaws.{given-fits, given_address-fits}
use Rattle.of10_match.proofs.MatchLaws.{fields-≡}
use Rattle.of10_match.specs.Field.{IsPrefix, IsValidAddress, IsValidNumber}
use Rattle.of10_match.specs.Match.{IsValidMatch}
use Rattle.of10_match.specs.Wire.{address_of, flag, match_bytes, match_of, number_read, open_bits, prefix_read, wildcards_of}
use Rattle.of10_match.specs.declared.matches.Match.{Match}

-- ---- what is read is valid

number_read-valid : (bits wildcards bit x : ℕ) → x < 2 ^ bits → IsValidNumber bits (number_read wildcards bit x)
number_read-valid bits wildcards bit x fits = elim (bit_and wildcards (2 ^ bit) == 0) as (λ b. IsValidNumber bits (if b then Some x else None)) [ true ↦ fits | false ↦ tt ]

-- the address of a count below 32 of bits that are not compared
prefix_of-valid : (count address : ℕ) → count < 32 → address < 2 ^ 32 → IsPrefix (address / 2 ^ count * 2 ^ count, 32 - count)
prefix_of-valid count address less fits = record {
  address = omega (arith, div-mul-le_self address (2 ^ count));
  some = omega arith;
  most = omega arith;
  rest = let same : 32 - (32 - count) ≡ count = omega arith in rw same (mul-mod_left (address / 2 ^ count) (2 ^ count));
}

prefix_read-valid : (count address : ℕ) → address < 2 ^ 32 → IsValidAddress (prefix_read count address)
prefix_read-valid count address fits = chosen (nat_le 32 count) refl where
  chosen : (whole : Bool) → nat_le 32 count ≡ whole → IsValidAddress (if whole then None else Some (address / 2 ^ count * 2 ^ count, 32 - count))
  chosen true test = tt
  chosen false test = prefix_of-valid count address (leb-false 32 count test) fits

-- the match that any forty bytes stand for is valid
pub match_of-valid : (bytes : List ℕ) → ((i : ℕ) → slice_index bytes i < 256) → IsValidMatch (match_of bytes)
unfolding match_of
match_of-valid bytes each =
    let wildcards = big_from 0 4 bytes in
    record {
      in_port = number_read-valid 16 wildcards 0 (big_from 4 2 bytes) (big_from-lt 4 2 bytes each);
      dl_src = number_read-valid 48 wildcards 2 (big_from 6 6 bytes) (big_from-lt 6 6 bytes each);
      dl_dst = number_read-valid 48 wildcards 3 (big_from 12 6 bytes) (big_from-lt 12 6 bytes each);
      dl_vlan = number_read-valid 16 wildcards 1 (big_from 18 2 bytes) (big_from-lt 18 2 bytes each);
      dl_vlan_pcp = number_read-valid 8 wildcards 20 (slice_index bytes 20) (each 20);
      dl_type = number_read-valid 16 wildcards 4 (big_from 22 2 bytes) (big_from-lt 22 2 bytes each);
      nw_tos = number_read-valid 8 wildcards 21 (slice_index bytes 24) (each 24);
      nw_proto = number_read-valid 8 wildcards 5 (slice_index bytes 25) (each 25);
      nw_src = prefix_read-valid (wildcards / 2 ^ 8 % 2 ^ 6) (big_from 28 4 bytes) (big_from-lt 28 4 bytes each);
      nw_dst = prefix_read-valid (wildcards / 2 ^ 14 % 2 ^ 6) (big_from 32 4 bytes) (big_from-lt 32 4 bytes each);
      tp_src = number_read-valid 16 wildcards 6 (big_from 36 2 bytes) (big_from-lt 36 2 bytes each);
      tp_dst = number_read-valid 16 wildcards 7 (big_from 38 2 bytes) (big_from-lt 38 2 bytes each);
    }

-- ---- the bits and counts of the wildcards

-- 1 where a field is absent, and 0 where it is there
abbrev absent : Option ℕ → ℕ
absent None = 1
absent (Some x) = 0

absent-lt : (o : Option ℕ) → absent o < 2
absent-lt None = lit< tt
absent-lt (Some x) = lit< tt

flag-absent : (bit : ℕ) (o : Option ℕ) → flag bit o ≡ absent o * 2 ^ bit
flag-absent bit None = omega arith
flag-absent bit (Some x) = omega arith

-- ten bits and two counts, each in its place
abbrev places : (a b c d e f g h i j k l : ℕ) → ℕ
places a b c d e f g h i j k l = a * 1 + b * 2 + c * 4 + d * 8 + e * 16 + f * 32 + g * 64 + h * 128 + i * 256 + j * 16384 + k * 1048576 + l * 2097152

record Parts (w a b c d e f g h i j k l : ℕ) : Type 0 where
  fits : w < 2 ^ 32
  in_port : bit_at w 0 ≡ a
  dl_vlan : bit_at w 1 ≡ b
  dl_src : bit_at w 2 ≡ c
  dl_dst : bit_at w 3 ≡ d
  dl_type : bit_at w 4 ≡ e
  nw_proto : bit_at w 5 ≡ f
  tp_src : bit_at w 6 ≡ g
  tp_dst : bit_at w 7 ≡ h
  nw_src : w / 2 ^ 8 % 2 ^ 6 ≡ i
  nw_dst : w / 2 ^ 14 % 2 ^ 6 ≡ j
  dl_vlan_pcp : bit_at w 20 ≡ k
  nw_tos : bit_at w 21 ≡ l

-- each is found there
parts_of : (a b c d e f g h i j k l : ℕ) → a < 2 → b < 2 → c < 2 → d < 2 → e < 2 → f < 2 → g < 2 → h < 2 → i ≤ 32 → j ≤ 32 → k < 2 → l < 2
    → Parts (places a b c d e f g h i j k l) a b c d e f g h i j k l
parts_of a b c d e f g h i j k l a2 b2 c2 d2 e2 f2 g2 h2 i32 j32 k2 l2 = record {
  fits = omega arith;
  in_port = omega arith;
  dl_vlan = omega arith;
  dl_src = omega arith;
  dl_dst = omega arith;
  dl_type = omega arith;
  nw_proto = omega arith;
  tp_src = omega arith;
  tp_dst = omega arith;
  nw_src = omega arith;
  nw_dst = omega arith;
  dl_vlan_pcp = omega arith;
  nw_tos = omega arith;
}

open_bits-le : (o : Option (ℕ × ℕ)) → open_bits o ≤ 32
open_bits-le None = lit≤ tt
open_bits-le (Some p) = omega arith

-- the wildcards of a match have its parts
wildcards_of-parts : (m : Match) → Parts (wildcards_of m) (absent m.in_port) (absent m.dl_vlan) (absent m.dl_src) (absent m.dl_dst) (absent m.dl_type) (absent m.nw_proto)
    (absent m.tp_src) (absent m.tp_dst) (open_bits m.nw_src) (open_bits m.nw_dst) (absent m.dl_vlan_pcp) (absent m.nw_tos)
wildcards_of-parts m =
    let at = parts_of (absent m.in_port) (absent m.dl_vlan) (absent m.dl_src) (absent m.dl_dst) (absent m.dl_type) (absent m.nw_proto)
    (absent m.tp_src) (absent m.tp_dst) (open_bits m.nw_src) (open_bits m.nw_dst) (absent m.dl_vlan_pcp) (absent m.nw_tos)
    (absent-lt m.in_port) (absent-lt m.dl_vlan) (absent-lt m.dl_src) (absent-lt m.dl_dst) (absent-lt m.dl_type) (absent-lt m.nw_proto)
    (absent-lt m.tp_src) (absent-lt m.tp_dst) (open_bits-le m.nw_src) (open_bits-le m.nw_dst) (absent-lt m.dl_vlan_pcp) (absent-lt m.nw_tos) in
    let sum : wildcards_of m ≡ places (absent m.in_port) (absent m.dl_vlan) (absent m.dl_src) (absent m.dl_dst) (absent m.dl_type) (absent m.nw_proto)
    (absent m.tp_src) (absent m.tp_dst) (open_bits m.nw_src) (open_bits m.nw_dst) (absent m.dl_vlan_pcp) (absent m.nw_tos)
    = omega (
      arith,
      flag-absent 0 m.in_port,
      flag-absent 1 m.dl_vlan,
      flag-absent 2 m.dl_src,
      flag-absent 3 m.dl_dst,
      flag-absent 4 m.dl_type,
      flag-absent 5 m.nw_proto,
      flag-absent 6 m.tp_src,
      flag-absent 7 m.tp_dst,
      flag-absent 20 m.dl_vlan_pcp,
      flag-absent 21 m.nw_tos,
    ) in
    subst (λ w. Parts w (absent m.in_port) (absent m.dl_vlan) (absent m.dl_src) (absent m.dl_dst) (absent m.dl_type) (absent m.nw_proto)
    (absent m.tp_src) (absent m.tp_dst) (open_bits m.nw_src) (open_bits m.nw_dst) (absent m.dl_vlan_pcp) (absent m.nw_tos)) (sym sum) at

-- ---- what is written is read back

-- a number field, where the wildcards have its bit as it is written
number_back : (wildcards bit x : ℕ) (o : Option ℕ) → bit_at wildcards bit ≡ absent o → x ≡ unwrap_or o 0 → number_read wildcards bit x ≡ o
number_back wildcards bit x None at same = chosen (bit_and wildcards (2 ^ bit) == 0) refl where
  chosen : (given : Bool) → (bit_and wildcards (2 ^ bit) == 0) ≡ given → (if given then Some x else None) ≡ None
  chosen true test =
      let none = eqb-true (bit_and wildcards (2 ^ bit)) 0 test in
      let set : bit_and wildcards (2 ^ bit) ≡ 1 * 2 ^ bit = and_pow wildcards bit ∙ ap (λ (b : ℕ). b * 2 ^ bit) at in
      absurd (omega (arith, pow_pos bit))
  chosen false test = refl
number_back wildcards bit x (Some y) at same =
    let clear : bit_and wildcards (2 ^ bit) ≡ 0 = and_pow wildcards bit ∙ ap (λ (b : ℕ). b * 2 ^ bit) at ∙ omega arith in
    rw (eq-eqb (bit_and wildcards (2 ^ bit)) 0 clear) (ap Some same)

-- an address field, where the count is as it is written
address_back : (count x : ℕ) (o : Option (ℕ × ℕ)) → IsValidAddress o → count ≡ open_bits o → x ≡ address_of o → prefix_read count x ≡ o
address_back count x None v at same = rw at refl
address_back count x (Some p) v at same = chosen (nat_le 32 count) refl where
  chosen : (whole : Bool) → nat_le 32 count ≡ whole → (if whole then None else Some (x / 2 ^ count * 2 ^ count, 32 - count)) ≡ Some p
  chosen true test = absurd (omega (arith, leb-true 32 count test, v.some))
  chosen false test =
      let bits : 32 - count ≡ p.1 = omega (arith, v.most) in
      let low : x % 2 ^ count ≡ 0 = rw (at, same) v.rest in
      let high : x / 2 ^ count * 2 ^ count ≡ p.0 = omega (arith, shr_split x count) in
      rw (bits, high) refl

-- a match is read back from its bytes
pub match_of-match_bytes : (m : Match) → IsValidMatch m → match_of (match_bytes m) ≡ m
unfolding match_of match_bytes
match_of-match_bytes m v =
    let bytes = match_bytes m in
    let at = wildcards_of-parts m in
    let wildcards : big_from 0 4 bytes ≡ wildcards_of m = big_number-reads_back 4 (wildcards_of m) (drop 4 bytes) at.fits in
    rw wildcards (fields-≡ _ m
    (number_back _ 0 _ m.in_port at.in_port (big_number-reads_back 2 (unwrap_or m.in_port 0) [] (given-fits 16 m.in_port v.in_port)))
    (number_back _ 2 _ m.dl_src at.dl_src (big_number-reads_back 6 (unwrap_or m.dl_src 0) [] (given-fits 48 m.dl_src v.dl_src)))
    (number_back _ 3 _ m.dl_dst at.dl_dst (big_number-reads_back 6 (unwrap_or m.dl_dst 0) [] (given-fits 48 m.dl_dst v.dl_dst)))
    (number_back _ 1 _ m.dl_vlan at.dl_vlan (big_number-reads_back 2 (unwrap_or m.dl_vlan 0) [] (given-fits 16 m.dl_vlan v.dl_vlan)))
    (number_back _ 20 _ m.dl_vlan_pcp at.dl_vlan_pcp refl)
    (number_back _ 4 _ m.dl_type at.dl_type (big_number-reads_back 2 (unwrap_or m.dl_type 0) [] (given-fits 16 m.dl_type v.dl_type)))
    (number_back _ 21 _ m.nw_tos at.nw_tos refl)
    (number_back _ 5 _ m.nw_proto at.nw_proto refl)
    (address_back _ _ m.nw_src v.nw_src at.nw_src (big_number-reads_back 4 (address_of m.nw_src) [] (given_address-fits m.nw_src v.nw_src)))
    (address_back _ _ m.nw_dst v.nw_dst at.nw_dst (big_number-reads_back 4 (address_of m.nw_dst) [] (given_address-fits m.nw_dst v.nw_dst)))
    (number_back _ 6 _ m.tp_src at.tp_src (big_number-reads_back 2 (unwrap_or m.tp_src 0) [] (given-fits 16 m.tp_src v.tp_src)))
    (number_back _ 7 _ m.tp_dst at.tp_dst (big_number-reads_back 2 (unwrap_or m.tp_dst 0) [] (given-fits 16 m.tp_dst v.tp_dst))))
