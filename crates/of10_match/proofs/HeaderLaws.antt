-- The order of headers is total and exact.
use Rattle.std.proofs.Common.{◌≡◌, refl}
use Rattle.std.proofs.lemmas.Cmp.{nat_cmp_total, on_total, then_total}
use Rattle.std.proofs.lemmas.Map.Lookups.{exact_unsigned}
use Rattle.std.specs.Cmp.{IsTotalOrder}
use Rattle.std.specs.Ordering.{nat_cmp, ordering_then}
use Rattle.std.specs.declared.cmp.Ordering.{Ordering}
use Rattle.std.specs.declared.cmp.Ordering.TheVariants.{Equal, Greater, Less}
use Rattle.of10_match.specs.Header.{header_cmp}
use Rattle.of10_match.specs.declared.header.Header.{Header}

pub header_cmp-total : IsTotalOrder header_cmp
header_cmp-total =
    then_total (on_total (λ (h : Header). h.dl_src) nat_cmp_total) (
    then_total (on_total (λ (h : Header). h.dl_dst) nat_cmp_total) (
    then_total (on_total (λ (h : Header). h.dl_vlan) nat_cmp_total) (
    then_total (on_total (λ (h : Header). h.dl_vlan_pcp) nat_cmp_total) (
    then_total (on_total (λ (h : Header). h.dl_type) nat_cmp_total) (
    then_total (on_total (λ (h : Header). h.nw_tos) nat_cmp_total) (
    then_total (on_total (λ (h : Header). h.nw_proto) nat_cmp_total) (
    then_total (on_total (λ (h : Header). h.nw_src) nat_cmp_total) (
    then_total (on_total (λ (h : Header). h.nw_dst) nat_cmp_total) (
    then_total (on_total (λ (h : Header). h.tp_src) nat_cmp_total) (
    on_total (λ (h : Header). h.tp_dst) nat_cmp_total))))))))))

-- two comparisons in a row that say equal
both_equal : (o p : Ordering) → ordering_then o p ≡ Equal → (o ≡ Equal) × (p ≡ Equal)
both_equal Less p h = (cc, cc)
both_equal Equal p h = (refl, h)
both_equal Greater p h = (cc, cc)

pub header_cmp-one : (a b : Header) → header_cmp a b ≡ Equal → a ≡ b
header_cmp-one a b equal =
    let dl_src = both_equal (nat_cmp a.dl_src b.dl_src) _ equal in
    let dl_dst = both_equal (nat_cmp a.dl_dst b.dl_dst) _ dl_src.1 in
    let dl_vlan = both_equal (nat_cmp a.dl_vlan b.dl_vlan) _ dl_dst.1 in
    let dl_vlan_pcp = both_equal (nat_cmp a.dl_vlan_pcp b.dl_vlan_pcp) _ dl_vlan.1 in
    let dl_type = both_equal (nat_cmp a.dl_type b.dl_type) _ dl_vlan_pcp.1 in
    let nw_tos = both_equal (nat_cmp a.nw_tos b.nw_tos) _ dl_type.1 in
    let nw_proto = both_equal (nat_cmp a.nw_proto b.nw_proto) _ nw_tos.1 in
    let nw_src = both_equal (nat_cmp a.nw_src b.nw_src) _ nw_proto.1 in
    let nw_dst = both_equal (nat_cmp a.nw_dst b.nw_dst) _ nw_src.1 in
    let tp_src = both_equal (nat_cmp a.tp_src b.tp_src) _ nw_dst.1 in
    let e : record { dl_src = a.dl_src; dl_dst = a.dl_dst; dl_vlan = a.dl_vlan; dl_vlan_pcp = a.dl_vlan_pcp; dl_type = a.dl_type; nw_tos = a.nw_tos; nw_proto = a.nw_proto; nw_src = a.nw_src; nw_dst = a.nw_dst; tp_src = a.tp_src; tp_dst = a.tp_dst } ≡ record { dl_src = b.dl_src; dl_dst = b.dl_dst; dl_vlan = b.dl_vlan; dl_vlan_pcp = b.dl_vlan_pcp; dl_type = b.dl_type; nw_tos = b.nw_tos; nw_proto = b.nw_proto; nw_src = b.nw_src; nw_dst = b.nw_dst; tp_src = b.tp_src; tp_dst = b.tp_dst } = rw (
      exact_unsigned a.dl_src b.dl_src dl_src.0,
      exact_unsigned a.dl_dst b.dl_dst dl_dst.0,
      exact_unsigned a.dl_vlan b.dl_vlan dl_vlan.0,
      exact_unsigned a.dl_vlan_pcp b.dl_vlan_pcp dl_vlan_pcp.0,
      exact_unsigned a.dl_type b.dl_type dl_type.0,
      exact_unsigned a.nw_tos b.nw_tos nw_tos.0,
      exact_unsigned a.nw_proto b.nw_proto nw_proto.0,
      exact_unsigned a.nw_src b.nw_src nw_src.0,
      exact_unsigned a.nw_dst b.nw_dst nw_dst.0,
      exact_unsigned a.tp_src b.tp_src tp_src.0,
      exact_unsigned a.tp_dst b.tp_dst tp_src.1,
    ) refl in e
