-- The forty bytes of a match: OpenFlow 1.0.0 section 5.2.3, `ofp_match` with `ofp_flow_wildcards`.
use Rattle.std.specs.Prelude.{◌+◌, ◌-◌, ◌*◌, ◌/◌, ◌%◌, ◌^◌, ◌==◌, ℕ, List, ◌∷◌, ◌++◌, Option, Some, None, bit_and, if◌then◌else◌, is_none, nat_le, slice_index, unwrap_or}
use Rattle.byteorder.specs.Endian.{big_bytes, big_from}
use Rattle.of10_match.specs.declared.matches.Match.{Match}

-- a number field: absent where its bit of the wildcards is set
abbrev pub number_read : ℕ → ℕ → ℕ → Option ℕ
number_read wildcards bit number = if bit_and wildcards (2 ^ bit) == 0 then Some number else None

-- an address field with a count of low bits that are not compared: absent at 32 and more, and else the
-- address with those bits zero, and the number of the others
abbrev pub prefix_read : ℕ → ℕ → Option (ℕ × ℕ)
prefix_read count address = if nat_le 32 count then None else Some (address / 2 ^ count * 2 ^ count, 32 - count)

-- an address field whose count stands in the six bits of the wildcards from a place on
abbrev pub address_read : ℕ → ℕ → ℕ → Option (ℕ × ℕ)
address_read wildcards place address = prefix_read (wildcards / 2 ^ place % 2 ^ 6) address

-- the match that forty bytes stand for; padding and other bits of the wildcards stand for nothing
unfoldable pub match_of : List ℕ → Match
match_of bytes =
    let wildcards = big_from 0 4 bytes in
    record {
      in_port = number_read wildcards 0 (big_from 4 2 bytes);
      dl_src = number_read wildcards 2 (big_from 6 6 bytes);
      dl_dst = number_read wildcards 3 (big_from 12 6 bytes);
      dl_vlan = number_read wildcards 1 (big_from 18 2 bytes);
      dl_vlan_pcp = number_read wildcards 20 (slice_index bytes 20);
      dl_type = number_read wildcards 4 (big_from 22 2 bytes);
      nw_tos = number_read wildcards 21 (slice_index bytes 24);
      nw_proto = number_read wildcards 5 (slice_index bytes 25);
      nw_src = address_read wildcards 8 (big_from 28 4 bytes);
      nw_dst = address_read wildcards 14 (big_from 32 4 bytes);
      tp_src = number_read wildcards 6 (big_from 36 2 bytes);
      tp_dst = number_read wildcards 7 (big_from 38 2 bytes);
    }

-- the bit of the wildcards that says that a field is absent
abbrev pub flag : ℕ → Option ℕ → ℕ
flag bit field = if is_none field then 2 ^ bit else 0

-- how many low bits of an address are not compared
abbrev pub open_bits : Option (ℕ × ℕ) → ℕ
open_bits None = 32
open_bits (Some p) = 32 - p.1

-- the wildcards of a match: the bit of each absent number, and the two counts
abbrev pub wildcards_of : Match → ℕ
wildcards_of m = flag 0 m.in_port + flag 1 m.dl_vlan + flag 2 m.dl_src + flag 3 m.dl_dst + flag 4 m.dl_type
    + flag 5 m.nw_proto + flag 6 m.tp_src + flag 7 m.tp_dst + open_bits m.nw_src * 2 ^ 8
    + open_bits m.nw_dst * 2 ^ 14 + flag 20 m.dl_vlan_pcp + flag 21 m.nw_tos

-- the address of an address field, zero where it is absent
abbrev pub address_of : Option (ℕ × ℕ) → ℕ
address_of None = 0
address_of (Some p) = p.0

-- the forty bytes of a match, with zeros for absent numbers and for padding
unfoldable pub match_bytes : Match → List ℕ
match_bytes m =
    big_bytes 4 (wildcards_of m)
    ++ (big_bytes 2 (unwrap_or m.in_port 0)
    ++ (big_bytes 6 (unwrap_or m.dl_src 0)
    ++ (big_bytes 6 (unwrap_or m.dl_dst 0)
    ++ (big_bytes 2 (unwrap_or m.dl_vlan 0)
    ++ (unwrap_or m.dl_vlan_pcp 0
    ∷ (0
    ∷ (big_bytes 2 (unwrap_or m.dl_type 0)
    ++ (unwrap_or m.nw_tos 0
    ∷ (unwrap_or m.nw_proto 0
    ∷ (0
    ∷ (0
    ∷ (big_bytes 4 (address_of m.nw_src)
    ++ (big_bytes 4 (address_of m.nw_dst)
    ++ (big_bytes 2 (unwrap_or m.tp_src 0)
    ++ big_bytes 2 (unwrap_or m.tp_dst 0)))))))))))))))
