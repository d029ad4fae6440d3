-- The header of a packet: which headers are valid, and their order.
use Rattle.std.specs.Prelude.{◌<◌, ◌^◌}
use Rattle.std.specs.declared.cmp.Ordering.{Ordering}
use Rattle.std.specs.Ordering.{nat_cmp, ordering_then}
use Rattle.of10_match.specs.declared.header.Header.{Header}

-- each field lies within its width (OpenFlow 1.0.0 section 5.2.3, the field types of ofp_match)
pub record IsValidHeader (h : Header) : Type 0 where
  pub dl_src : h.dl_src < 2 ^ 48
  pub dl_dst : h.dl_dst < 2 ^ 48
  pub dl_vlan : h.dl_vlan < 2 ^ 16
  pub dl_vlan_pcp : h.dl_vlan_pcp < 2 ^ 8
  pub dl_type : h.dl_type < 2 ^ 16
  pub nw_tos : h.nw_tos < 2 ^ 8
  pub nw_proto : h.nw_proto < 2 ^ 8
  pub nw_src : h.nw_src < 2 ^ 32
  pub nw_dst : h.nw_dst < 2 ^ 32
  pub tp_src : h.tp_src < 2 ^ 16
  pub tp_dst : h.tp_dst < 2 ^ 16

-- headers in order: the first field in which they differ decides
abbrev pub header_cmp : Header → Header → Ordering
header_cmp a b = ordering_then (nat_cmp a.dl_src b.dl_src) (ordering_then (nat_cmp a.dl_dst b.dl_dst)
    (ordering_then (nat_cmp a.dl_vlan b.dl_vlan) (ordering_then (nat_cmp a.dl_vlan_pcp b.dl_vlan_pcp)
    (ordering_then (nat_cmp a.dl_type b.dl_type) (ordering_then (nat_cmp a.nw_tos b.nw_tos)
    (ordering_then (nat_cmp a.nw_proto b.nw_proto) (ordering_then (nat_cmp a.nw_src b.nw_src)
    (ordering_then (nat_cmp a.nw_dst b.nw_dst) (ordering_then (nat_cmp a.tp_src b.tp_src)
    (nat_cmp a.tp_dst b.tp_dst))))))))))
