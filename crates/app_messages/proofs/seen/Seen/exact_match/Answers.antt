-- Each field has the width of the header's, and an address that is compared whole has no other bits.
use Rattle.std.proofs.Common.{ℕ, ◌<◌, ◌^◌, arith}
use Rattle.of10_match.specs.Field.{IsPrefix}
use Rattle.app_messages.proofs.seen.Seen.exact_match.Goals as goal

whole : (address : ℕ) → address < 2 ^ 32 → IsPrefix (address, 32)
whole address fits = record { address = fits; some = omega arith; most = omega arith; rest = omega arith }

pub returns-clause-valid : goal.returns-clause-valid
returns-clause-valid c = let header = c.header-header.ensures.valid in record {
  in_port = c.port_field.ensures.valid;
  dl_src = header.dl_src;
  dl_dst = header.dl_dst;
  dl_vlan = header.dl_vlan;
  dl_vlan_pcp = header.dl_vlan_pcp;
  dl_type = header.dl_type;
  nw_tos = header.nw_tos;
  nw_proto = header.nw_proto;
  nw_src = whole c.header-header.result.nw_src header.nw_src;
  nw_dst = whole c.header-header.result.nw_dst header.nw_dst;
  tp_src = header.tp_src;
  tp_dst = header.tp_dst;
}
