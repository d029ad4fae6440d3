-- Headers and matches read back.
use Rattle.std.proofs.Common.{◌≡◌, ℕ, Option, Some, None, Ok, refl, ap, ◌∙◌, false, arith, rules}
use Rattle.std.specs.Prelude.{IfSome}
use Rattle.of10_match.specs.Field.{IsValidNumber}
use Rattle.of10_match.specs.Header.{IsValidHeader}
use Rattle.of10_match.specs.declared.header.Header.{Header}
use Rattle.of10_match.specs.declared.matches.Match.{Match}
use Rattle.doc_forms.specs.Forms.{element, number}
use Rattle.doc_forms.specs.Written.{nullable_data, number_data}
use Rattle.scenario_doc.specs.Packets.{bits, header_of, match_of, nullable, prefix_of}
use Rattle.scenario_doc.specs.Ranges.{IsWideMatch, IsWidePrefix}
use Rattle.scenario_doc.specs.Written.{header_data, match_data, prefix_data}
use Rattle.scenario_doc.proofs.WrittenForms.{bits_reads, number_reads, nullable_reads}

pub header_reads : (h : Header) → IsValidHeader h → header_of (header_data h) ≡ Ok h
header_reads h w = rw (
  bits_reads 48 h.dl_src w.dl_src,
  bits_reads 48 h.dl_dst w.dl_dst,
  bits_reads 16 h.dl_vlan w.dl_vlan,
  bits_reads 8 h.dl_vlan_pcp w.dl_vlan_pcp,
  bits_reads 16 h.dl_type w.dl_type,
  bits_reads 8 h.nw_tos w.nw_tos,
  bits_reads 8 h.nw_proto w.nw_proto,
  bits_reads 32 h.nw_src w.nw_src,
  bits_reads 32 h.nw_dst w.nw_dst,
  bits_reads 16 h.tp_src w.tp_src,
  bits_reads 16 h.tp_dst w.tp_dst,
)

pub number_or_none_reads : (width : ℕ) (found : Option ℕ) → IsValidNumber width found → nullable (bits width) (nullable_data number_data found) ≡ Ok found
number_or_none_reads width None h = refl
number_or_none_reads width (Some n) h = nullable_reads (bits width) number_data (λ x. refl) (Some n) (bits_reads width n h)

pub prefix_reads : (prefix : ℕ × ℕ) → IsWidePrefix prefix → prefix_of (prefix_data prefix) ≡ Ok prefix
prefix_reads prefix w = rw (bits_reads 32 prefix.0 w.address, number_reads 1 32 prefix.1 w.some w.most)

pub address_or_none_reads : (found : Option (ℕ × ℕ)) → IfSome found IsWidePrefix → nullable prefix_of (nullable_data prefix_data found) ≡ Ok found
address_or_none_reads None h = refl
address_or_none_reads (Some prefix) h = nullable_reads prefix_of prefix_data (λ x. refl) (Some prefix) (prefix_reads prefix h)

pub match_reads : (m : Match) → IsWideMatch m → match_of (match_data m) ≡ Ok m
match_reads m w = rw (
  number_or_none_reads 16 m.in_port w.in_port,
  number_or_none_reads 48 m.dl_src w.dl_src,
  number_or_none_reads 48 m.dl_dst w.dl_dst,
  number_or_none_reads 16 m.dl_vlan w.dl_vlan,
  number_or_none_reads 8 m.dl_vlan_pcp w.dl_vlan_pcp,
  number_or_none_reads 16 m.dl_type w.dl_type,
  number_or_none_reads 8 m.nw_tos w.nw_tos,
  number_or_none_reads 8 m.nw_proto w.nw_proto,
  address_or_none_reads m.nw_src w.nw_src,
  address_or_none_reads m.nw_dst w.nw_dst,
  number_or_none_reads 16 m.tp_src w.tp_src,
  number_or_none_reads 16 m.tp_dst w.tp_dst,
)
