-- A match without a wildcard takes one port and one header.
use Rattle.std.proofs.Common.{◌≡◌, ◌-◌, ◌/◌, ◌^◌, ◌∙◌, ℕ, Bool, true, false, ◌||◌, Option, Some, None, is_none, refl, sym, ap, arith}
use Rattle.std.proofs.Math.Nat.{div-one}
use Rattle.std.proofs.lemmas.Bool.{ltb-false}
use Rattle.of10_match.specs.Field.{IsValidAddress, TakesAddress, TakesNumber}
use Rattle.of10_match.specs.Match.{IsValidMatch, Takes, has_wildcard, is_open}
use Rattle.of10_match.specs.declared.header.Header.{Header}
use Rattle.of10_match.specs.declared.matches.Match.{Match}

-- a number field that is there takes one number
number-one : (o : Option ℕ) (x y : ℕ) → is_none o ≡ false → TakesNumber o x → TakesNumber o y → x ≡ y
number-one None x y there t u = cc
number-one (Some z) x y there t u = t ∙ sym u

-- an address field that compares 32 bits takes one address
address-one : (o : Option (ℕ × ℕ)) (x y : ℕ) → IsValidAddress o → is_open o ≡ false → TakesAddress o x → TakesAddress o y → x ≡ y
address-one None x y v there t u = cc
address-one (Some p) x y v there t u =
    let none : 32 - p.1 ≡ 0 = omega (arith, ltb-false p.1 32 there) in
    let same : x / 2 ^ (32 - p.1) ≡ y / 2 ^ (32 - p.1) = t ∙ sym u in
    sym (div-one x) ∙ ap (λ (j : ℕ). x / 2 ^ j) (sym none) ∙ same ∙ ap (λ (j : ℕ). y / 2 ^ j) none ∙ div-one y

-- two tests of which none holds
neither : (a b : Bool) → (a || b) ≡ false → (a ≡ false) × (b ≡ false)
neither true b h = cc
neither false b h = (refl, h)

-- twelve tests of which none holds, one for each field
record NoneHolds (a b c d e f g h i j k l : Bool) : Type 0 where
  in_port : a ≡ false
  dl_src : b ≡ false
  dl_dst : c ≡ false
  dl_vlan : d ≡ false
  dl_vlan_pcp : e ≡ false
  dl_type : f ≡ false
  nw_tos : g ≡ false
  nw_proto : h ≡ false
  nw_src : i ≡ false
  nw_dst : j ≡ false
  tp_src : k ≡ false
  tp_dst : l ≡ false

none_of : (a b c d e f g h i j k l : Bool) → (a || b || c || d || e || f || g || h || i || j || k || l) ≡ false → NoneHolds a b c d e f g h i j k l
none_of a b c d e f g h i j k l none =
    let l' = neither (a || b || c || d || e || f || g || h || i || j || k) l none in
    let k' = neither (a || b || c || d || e || f || g || h || i || j) k l'.0 in
    let j' = neither (a || b || c || d || e || f || g || h || i) j k'.0 in
    let i' = neither (a || b || c || d || e || f || g || h) i j'.0 in
    let h' = neither (a || b || c || d || e || f || g) h i'.0 in
    let g' = neither (a || b || c || d || e || f) g h'.0 in
    let f' = neither (a || b || c || d || e) f g'.0 in
    let e' = neither (a || b || c || d) e f'.0 in
    let d' = neither (a || b || c) d e'.0 in
    let c' = neither (a || b) c d'.0 in
    let b' = neither a b c'.0 in
    record {
      in_port = b'.0;
      dl_src = b'.1;
      dl_dst = c'.1;
      dl_vlan = d'.1;
      dl_vlan_pcp = e'.1;
      dl_type = f'.1;
      nw_tos = g'.1;
      nw_proto = h'.1;
      nw_src = i'.1;
      nw_dst = j'.1;
      tp_src = k'.1;
      tp_dst = l'.1;
    }

pub exact-one : (m : Match) (port other : ℕ) (h g : Header) → IsValidMatch m → has_wildcard m ≡ false → Takes m port h → Takes m other g → (port ≡ other) × (h ≡ g)
unfolding has_wildcard
exact-one m port other h g v none t u =
    let w = none_of (is_none m.in_port) (is_none m.dl_src) (is_none m.dl_dst) (is_none m.dl_vlan) (is_none m.dl_vlan_pcp) (is_none m.dl_type) (is_none m.nw_tos) (is_none m.nw_proto) (is_open m.nw_src) (is_open m.nw_dst) (is_none m.tp_src) (is_none m.tp_dst) none in
    let same : record { dl_src = h.dl_src; dl_dst = h.dl_dst; dl_vlan = h.dl_vlan; dl_vlan_pcp = h.dl_vlan_pcp; dl_type = h.dl_type; nw_tos = h.nw_tos; nw_proto = h.nw_proto; nw_src = h.nw_src; nw_dst = h.nw_dst; tp_src = h.tp_src; tp_dst = h.tp_dst } ≡ record { dl_src = g.dl_src; dl_dst = g.dl_dst; dl_vlan = g.dl_vlan; dl_vlan_pcp = g.dl_vlan_pcp; dl_type = g.dl_type; nw_tos = g.nw_tos; nw_proto = g.nw_proto; nw_src = g.nw_src; nw_dst = g.nw_dst; tp_src = g.tp_src; tp_dst = g.tp_dst } = rw (
      number-one m.dl_src h.dl_src g.dl_src w.dl_src t.dl_src u.dl_src,
      number-one m.dl_dst h.dl_dst g.dl_dst w.dl_dst t.dl_dst u.dl_dst,
      number-one m.dl_vlan h.dl_vlan g.dl_vlan w.dl_vlan t.dl_vlan u.dl_vlan,
      number-one m.dl_vlan_pcp h.dl_vlan_pcp g.dl_vlan_pcp w.dl_vlan_pcp t.dl_vlan_pcp u.dl_vlan_pcp,
      number-one m.dl_type h.dl_type g.dl_type w.dl_type t.dl_type u.dl_type,
      number-one m.nw_tos h.nw_tos g.nw_tos w.nw_tos t.nw_tos u.nw_tos,
      number-one m.nw_proto h.nw_proto g.nw_proto w.nw_proto t.nw_proto u.nw_proto,
      address-one m.nw_src h.nw_src g.nw_src v.nw_src w.nw_src t.nw_src u.nw_src,
      address-one m.nw_dst h.nw_dst g.nw_dst v.nw_dst w.nw_dst t.nw_dst u.nw_dst,
      number-one m.tp_src h.tp_src g.tp_src w.tp_src t.tp_src u.tp_src,
      number-one m.tp_dst h.tp_dst g.tp_dst w.tp_dst t.tp_dst u.tp_dst,
    ) refl in
    (number-one m.in_port port other w.in_port t.in_port u.in_port, same)
