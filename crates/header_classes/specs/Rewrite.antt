-- What the sets of a list of actions do to a header.
use Rattle.std.specs.Prelude.{ℕ, List, [], ◌∷◌, Option, unwrap_or}
use Rattle.of10_match.specs.Field.{IsValidNumber}
use Rattle.of10_match.specs.declared.header.Header.{Header}
use Rattle.header_classes.specs.declared.rewrite.Rewrite.{Rewrite}

-- the header whose fields are the ones that were set, and else the old ones
abbrev pub rewritten : Rewrite → Header → Header
rewritten sets h = record {
  dl_src = unwrap_or sets.dl_src h.dl_src;
  dl_dst = unwrap_or sets.dl_dst h.dl_dst;
  dl_vlan = unwrap_or sets.dl_vlan h.dl_vlan;
  dl_vlan_pcp = unwrap_or sets.dl_vlan_pcp h.dl_vlan_pcp;
  dl_type = unwrap_or sets.dl_type h.dl_type;
  nw_tos = unwrap_or sets.nw_tos h.nw_tos;
  nw_proto = unwrap_or sets.nw_proto h.nw_proto;
  nw_src = unwrap_or sets.nw_src h.nw_src;
  nw_dst = unwrap_or sets.nw_dst h.nw_dst;
  tp_src = unwrap_or sets.tp_src h.tp_src;
  tp_dst = unwrap_or sets.tp_dst h.tp_dst;
}

-- the number that each field was set to, in the order of the fields
unfoldable pub numbers : Rewrite → List (Option ℕ)
numbers sets = sets.dl_src ∷ sets.dl_dst ∷ sets.dl_vlan ∷ sets.dl_vlan_pcp ∷ sets.dl_type ∷ sets.nw_tos ∷ sets.nw_proto ∷ sets.nw_src ∷ sets.nw_dst ∷ sets.tp_src ∷ sets.tp_dst ∷ []

-- each number that was set lies within the width of its field
pub record IsValidRewrite (sets : Rewrite) : Type 0 where
  pub dl_src : IsValidNumber 48 sets.dl_src
  pub dl_dst : IsValidNumber 48 sets.dl_dst
  pub dl_vlan : IsValidNumber 16 sets.dl_vlan
  pub dl_vlan_pcp : IsValidNumber 8 sets.dl_vlan_pcp
  pub dl_type : IsValidNumber 16 sets.dl_type
  pub nw_tos : IsValidNumber 8 sets.nw_tos
  pub nw_proto : IsValidNumber 8 sets.nw_proto
  pub nw_src : IsValidNumber 32 sets.nw_src
  pub nw_dst : IsValidNumber 32 sets.nw_dst
  pub tp_src : IsValidNumber 16 sets.tp_src
  pub tp_dst : IsValidNumber 16 sets.tp_dst
