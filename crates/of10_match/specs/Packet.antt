-- The record of a packet: 36 bytes, big-endian. The layout is this project's own; the fields and
-- their order are those of OpenFlow 1.0.0 section 5.2.3 (ofp_match).
use Rattle.std.specs.Prelude.{ℕ, ◌<◌, ◌^◌, List, [], ◌∷◌, ◌++◌, slice_index}
use Rattle.byteorder.specs.Endian.{big_bytes, big_from}
use Rattle.of10_match.specs.declared.packet.Packet.{Packet}
use Rattle.of10_match.specs.Header.{IsValidHeader}

-- the header is valid, and the tag has 32 bits
pub record IsValidPacket (p : Packet) : Type 0 where
  pub header : IsValidHeader p.header
  pub tag : p.tag < 2 ^ 32

-- the record of a packet: the header's fields in their order, the tag, and a zero byte
unfoldable pub record_of : Packet → List ℕ
record_of p =
    big_bytes 6 p.header.dl_src
    ++ (big_bytes 6 p.header.dl_dst
    ++ (big_bytes 2 p.header.dl_vlan
    ++ (p.header.dl_vlan_pcp
    ∷ (big_bytes 2 p.header.dl_type
    ++ (p.header.nw_tos
    ∷ (p.header.nw_proto
    ∷ (big_bytes 4 p.header.nw_src
    ++ (big_bytes 4 p.header.nw_dst
    ++ (big_bytes 2 p.header.tp_src
    ++ (big_bytes 2 p.header.tp_dst
    ++ (big_bytes 4 p.tag
    ++ (0 ∷ []))))))))))))

-- the packet that a record of 36 bytes holds, each field with its place and its number of bytes; the last
-- byte stands for nothing
unfoldable pub packet_of : List ℕ → Packet
packet_of bytes = record {
  header = record {
    dl_src = big_from 0 6 bytes;
    dl_dst = big_from 6 6 bytes;
    dl_vlan = big_from 12 2 bytes;
    dl_vlan_pcp = slice_index bytes 14;
    dl_type = big_from 15 2 bytes;
    nw_tos = slice_index bytes 17;
    nw_proto = slice_index bytes 18;
    nw_src = big_from 19 4 bytes;
    nw_dst = big_from 23 4 bytes;
    tp_src = big_from 27 2 bytes;
    tp_dst = big_from 29 2 bytes;
  };
  tag = big_from 31 4 bytes;
}
