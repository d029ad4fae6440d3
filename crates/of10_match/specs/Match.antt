-- The match of a flow entry: which are valid, what a match takes, and how two matches relate.
use Rattle.std.specs.Prelude.{◌<◌, ◌^◌, ◌&&◌, ◌||◌, ℕ, Bool, true, Option, Some, None, nat_eq, nat_lt, is_none}
use Rattle.std.specs.Option.{option_eq}
use Rattle.of10_match.specs.Field.{IsValidAddress, IsValidNumber, TakesAddress, TakesNumber, covers_address, covers_by, overlaps_address, overlaps_by, same_prefix, takes_address, takes_by}
use Rattle.of10_match.specs.Header.{IsValidHeader}
use Rattle.of10_match.specs.declared.header.Header.{Header}
use Rattle.of10_match.specs.declared.matches.Match.{Match}

-- each field lies within its width (OpenFlow 1.0.0 section 5.2.3, the field types of ofp_match)
pub record IsValidMatch (m : Match) : Type 0 where
  pub in_port : IsValidNumber 16 m.in_port
  pub dl_src : IsValidNumber 48 m.dl_src
  pub dl_dst : IsValidNumber 48 m.dl_dst
  pub dl_vlan : IsValidNumber 16 m.dl_vlan
  pub dl_vlan_pcp : IsValidNumber 8 m.dl_vlan_pcp
  pub dl_type : IsValidNumber 16 m.dl_type
  pub nw_tos : IsValidNumber 8 m.nw_tos
  pub nw_proto : IsValidNumber 8 m.nw_proto
  pub nw_src : IsValidAddress m.nw_src
  pub nw_dst : IsValidAddress m.nw_dst
  pub tp_src : IsValidNumber 16 m.tp_src
  pub tp_dst : IsValidNumber 16 m.tp_dst

-- what a match takes: a packet that comes in by a port, each field of which its field takes (OpenFlow
-- 1.0.0 section 3.4; here each field counts alone, whatever the frame type is)
pub record Takes (m : Match) (port : ℕ) (h : Header) : Type 0 where
  pub in_port : TakesNumber m.in_port port
  pub dl_src : TakesNumber m.dl_src h.dl_src
  pub dl_dst : TakesNumber m.dl_dst h.dl_dst
  pub dl_vlan : TakesNumber m.dl_vlan h.dl_vlan
  pub dl_vlan_pcp : TakesNumber m.dl_vlan_pcp h.dl_vlan_pcp
  pub dl_type : TakesNumber m.dl_type h.dl_type
  pub nw_tos : TakesNumber m.nw_tos h.nw_tos
  pub nw_proto : TakesNumber m.nw_proto h.nw_proto
  pub nw_src : TakesAddress m.nw_src h.nw_src
  pub nw_dst : TakesAddress m.nw_dst h.nw_dst
  pub tp_src : TakesNumber m.tp_src h.tp_src
  pub tp_dst : TakesNumber m.tp_dst h.tp_dst

-- a match covers another one: of all ports and all valid headers it takes those that the other takes
abbrev pub Covers : Match → Match → Type 0
Covers m other = (port : ℕ) (h : Header) → port < 2 ^ 16 → IsValidHeader h → Takes other port h → Takes m port h

-- two matches overlap: some port and some valid header are taken by both
pub record Overlaps (m other : Match) : Type 0 where
  pub port : ℕ
  pub header : Header
  pub port_fits : port < 2 ^ 16
  pub valid : IsValidHeader header
  pub one : Takes m port header
  pub both : Takes other port header

-- the match that takes everything
abbrev pub any_match : Match
any_match = record {
  in_port = None;
  dl_src = None;
  dl_dst = None;
  dl_vlan = None;
  dl_vlan_pcp = None;
  dl_type = None;
  nw_tos = None;
  nw_proto = None;
  nw_src = None;
  nw_dst = None;
  tp_src = None;
  tp_dst = None;
}

-- the test whether a match takes a port and a header
unfoldable pub takes : Match → ℕ → Header → Bool
takes m port h = takes_by nat_eq m.in_port port && takes_by nat_eq m.dl_src h.dl_src
    && takes_by nat_eq m.dl_dst h.dl_dst && takes_by nat_eq m.dl_vlan h.dl_vlan
    && takes_by nat_eq m.dl_vlan_pcp h.dl_vlan_pcp && takes_by nat_eq m.dl_type h.dl_type
    && takes_by nat_eq m.nw_tos h.nw_tos && takes_by nat_eq m.nw_proto h.nw_proto
    && takes_address m.nw_src h.nw_src && takes_address m.nw_dst h.nw_dst
    && takes_by nat_eq m.tp_src h.tp_src && takes_by nat_eq m.tp_dst h.tp_dst

-- the test whether a match covers another one, field by field
unfoldable pub covers : Match → Match → Bool
covers m n = covers_by nat_eq m.in_port n.in_port && covers_by nat_eq m.dl_src n.dl_src
    && covers_by nat_eq m.dl_dst n.dl_dst && covers_by nat_eq m.dl_vlan n.dl_vlan
    && covers_by nat_eq m.dl_vlan_pcp n.dl_vlan_pcp && covers_by nat_eq m.dl_type n.dl_type
    && covers_by nat_eq m.nw_tos n.nw_tos && covers_by nat_eq m.nw_proto n.nw_proto
    && covers_address m.nw_src n.nw_src && covers_address m.nw_dst n.nw_dst
    && covers_by nat_eq m.tp_src n.tp_src && covers_by nat_eq m.tp_dst n.tp_dst

-- the test whether two matches overlap, field by field
unfoldable pub overlaps : Match → Match → Bool
overlaps m n = overlaps_by nat_eq m.in_port n.in_port && overlaps_by nat_eq m.dl_src n.dl_src
    && overlaps_by nat_eq m.dl_dst n.dl_dst && overlaps_by nat_eq m.dl_vlan n.dl_vlan
    && overlaps_by nat_eq m.dl_vlan_pcp n.dl_vlan_pcp && overlaps_by nat_eq m.dl_type n.dl_type
    && overlaps_by nat_eq m.nw_tos n.nw_tos && overlaps_by nat_eq m.nw_proto n.nw_proto
    && overlaps_address m.nw_src n.nw_src && overlaps_address m.nw_dst n.nw_dst
    && overlaps_by nat_eq m.tp_src n.tp_src && overlaps_by nat_eq m.tp_dst n.tp_dst

-- the test whether two matches are one, field by field
unfoldable pub same : Match → Match → Bool
same m n = option_eq nat_eq m.in_port n.in_port
    && (option_eq nat_eq m.dl_src n.dl_src
    && (option_eq nat_eq m.dl_dst n.dl_dst
    && (option_eq nat_eq m.dl_vlan n.dl_vlan
    && (option_eq nat_eq m.dl_vlan_pcp n.dl_vlan_pcp
    && (option_eq nat_eq m.dl_type n.dl_type
    && (option_eq nat_eq m.nw_tos n.nw_tos
    && (option_eq nat_eq m.nw_proto n.nw_proto
    && (option_eq same_prefix m.nw_src n.nw_src
    && (option_eq same_prefix m.nw_dst n.nw_dst
    && (option_eq nat_eq m.tp_src n.tp_src
    && option_eq nat_eq m.tp_dst n.tp_dst))))))))))

-- an address field compares fewer than 32 bits
abbrev pub is_open : Option (ℕ × ℕ) → Bool
is_open None = true
is_open (Some p) = nat_lt p.1 32

-- a match has a wildcard: a field is absent, or an address compares fewer than 32 bits
unfoldable pub has_wildcard : Match → Bool
has_wildcard m = is_none m.in_port || is_none m.dl_src || is_none m.dl_dst || is_none m.dl_vlan
    || is_none m.dl_vlan_pcp || is_none m.dl_type || is_none m.nw_tos || is_none m.nw_proto
    || is_open m.nw_src || is_open m.nw_dst || is_none m.tp_src || is_none m.tp_dst
