-- The tests of matches say what they stand for.
use Rattle.std.proofs.Common.{◌≡◌, ◌<◌, ◌^◌, ℕ, Bool, true, ◌&&◌, IsTrue, ◌↔◌, Option, Some, None, unwrap_or, nat_eq, refl, ap, lit<}
use Rattle.std.proofs.lemmas.Bool.{and_parts}
use Rattle.std.proofs.lemmas.Bool.Decides.{Decides-eqb}
use Rattle.std.specs.Bool.{Decides}
use Rattle.std.specs.Option.{option_eq}
use Rattle.of10_match.proofs.FieldLaws.{TakesAddress-covers_address, TakesAddress-overlaps_address, TakesAddress-takes_address, TakesNumber-covers_by, TakesNumber-overlaps_by, TakesNumber-takes_by, covers_address-TakesAddress, covers_by-TakesNumber, given-fits, given-taken, given_address-fits, given_address-taken, overlaps_address-shared, overlaps_by-shared, takes_address-TakesAddress, takes_by-TakesNumber}
use Rattle.of10_match.specs.Field.{IsValidAddress, IsValidNumber, TakesAddress, TakesNumber, same_prefix}
use Rattle.of10_match.specs.Header.{IsValidHeader}
use Rattle.of10_match.specs.Match.{Covers, IsValidMatch, Overlaps, Takes, covers, overlaps, same, takes}
use Rattle.of10_match.specs.Wire.{address_of}
use Rattle.of10_match.specs.declared.header.Header.{Header}
use Rattle.of10_match.specs.declared.matches.Match.{Match}

-- twelve tests that hold, one for each field
record EachHolds (a b c d e f g h i j k l : Bool) : Type 0 where
  in_port : a ≡ true
  dl_src : b ≡ true
  dl_dst : c ≡ true
  dl_vlan : d ≡ true
  dl_vlan_pcp : e ≡ true
  dl_type : f ≡ true
  nw_tos : g ≡ true
  nw_proto : h ≡ true
  nw_src : i ≡ true
  nw_dst : j ≡ true
  tp_src : k ≡ true
  tp_dst : l ≡ true

-- all twelve hold where their conjunction does
parted : (a b c d e f g h i j k l : Bool) → (a && b && c && d && e && f && g && h && i && j && k && l) ≡ true → EachHolds a b c d e f g h i j k l
parted a b c d e f g h i j k l all =
    let l' = and_parts (a && b && c && d && e && f && g && h && i && j && k) l all in
    let k' = and_parts (a && b && c && d && e && f && g && h && i && j) k l'.0 in
    let j' = and_parts (a && b && c && d && e && f && g && h && i) j k'.0 in
    let i' = and_parts (a && b && c && d && e && f && g && h) i j'.0 in
    let h' = and_parts (a && b && c && d && e && f && g) h i'.0 in
    let g' = and_parts (a && b && c && d && e && f) g h'.0 in
    let f' = and_parts (a && b && c && d && e) f g'.0 in
    let e' = and_parts (a && b && c && d) e f'.0 in
    let d' = and_parts (a && b && c) d e'.0 in
    let c' = and_parts (a && b) c d'.0 in
    let b' = and_parts a b c'.0 in
    record {
      in_port = b'.0;
      dl_src = b'.1;
      dl_dst = c'.1;
      dl_vlan = d'.1;
      dl_vlan_pcp = e'.1;
      dl_type = f'.1;
      nw_tos = g'.1;
      nw_proto = h'.1;
      nw_src = i'.1;
      nw_dst = j'.1;
      tp_src = k'.1;
      tp_dst = l'.1;
    }

joined : {a b c d e f g h i j k l : Bool} → EachHolds a b c d e f g h i j k l → (a && b && c && d && e && f && g && h && i && j && k && l) ≡ true
joined w = rw (w.in_port, w.dl_src, w.dl_dst, w.dl_vlan, w.dl_vlan_pcp, w.dl_type, w.nw_tos, w.nw_proto, w.nw_src, w.nw_dst, w.tp_src, w.tp_dst) refl

-- the test of a match holds where the match takes the port and the header
pub takes-Takes : (m : Match) (port : ℕ) (h : Header) → IsTrue (takes m port h) ↔ Takes m port h
unfolding takes
takes-Takes m port h =
    let forth : IsTrue (takes m port h) → Takes m port h = λ all.
    let w = parted _ _ _ _ _ _ _ _ _ _ _ _ all in
    record {
      in_port = takes_by-TakesNumber _ _ w.in_port;
      dl_src = takes_by-TakesNumber _ _ w.dl_src;
      dl_dst = takes_by-TakesNumber _ _ w.dl_dst;
      dl_vlan = takes_by-TakesNumber _ _ w.dl_vlan;
      dl_vlan_pcp = takes_by-TakesNumber _ _ w.dl_vlan_pcp;
      dl_type = takes_by-TakesNumber _ _ w.dl_type;
      nw_tos = takes_by-TakesNumber _ _ w.nw_tos;
      nw_proto = takes_by-TakesNumber _ _ w.nw_proto;
      nw_src = takes_address-TakesAddress _ _ w.nw_src;
      nw_dst = takes_address-TakesAddress _ _ w.nw_dst;
      tp_src = takes_by-TakesNumber _ _ w.tp_src;
      tp_dst = takes_by-TakesNumber _ _ w.tp_dst;
    } in
    let back : Takes m port h → IsTrue (takes m port h) = λ t. joined record {
      in_port = TakesNumber-takes_by m.in_port port t.in_port;
      dl_src = TakesNumber-takes_by m.dl_src h.dl_src t.dl_src;
      dl_dst = TakesNumber-takes_by m.dl_dst h.dl_dst t.dl_dst;
      dl_vlan = TakesNumber-takes_by m.dl_vlan h.dl_vlan t.dl_vlan;
      dl_vlan_pcp = TakesNumber-takes_by m.dl_vlan_pcp h.dl_vlan_pcp t.dl_vlan_pcp;
      dl_type = TakesNumber-takes_by m.dl_type h.dl_type t.dl_type;
      nw_tos = TakesNumber-takes_by m.nw_tos h.nw_tos t.nw_tos;
      nw_proto = TakesNumber-takes_by m.nw_proto h.nw_proto t.nw_proto;
      nw_src = TakesAddress-takes_address m.nw_src h.nw_src t.nw_src;
      nw_dst = TakesAddress-takes_address m.nw_dst h.nw_dst t.nw_dst;
      tp_src = TakesNumber-takes_by m.tp_src h.tp_src t.tp_src;
      tp_dst = TakesNumber-takes_by m.tp_dst h.tp_dst t.tp_dst;
    } in
    (forth, back)

-- a number of so many bits that a field takes
record Choice (bits : ℕ) (Taken : ℕ → Type 0) : Type 0 where
  number : ℕ
  fits : number < 2 ^ bits
  taken : Taken number

-- one for each field of a match
record Choices (m : Match) : Type 0 where
  in_port : Choice 16 (TakesNumber m.in_port)
  dl_src : Choice 48 (TakesNumber m.dl_src)
  dl_dst : Choice 48 (TakesNumber m.dl_dst)
  dl_vlan : Choice 16 (TakesNumber m.dl_vlan)
  dl_vlan_pcp : Choice 8 (TakesNumber m.dl_vlan_pcp)
  dl_type : Choice 16 (TakesNumber m.dl_type)
  nw_tos : Choice 8 (TakesNumber m.nw_tos)
  nw_proto : Choice 8 (TakesNumber m.nw_proto)
  nw_src : Choice 32 (TakesAddress m.nw_src)
  nw_dst : Choice 32 (TakesAddress m.nw_dst)
  tp_src : Choice 16 (TakesNumber m.tp_src)
  tp_dst : Choice 16 (TakesNumber m.tp_dst)

abbrev header_of : {m : Match} → Choices m → Header
header_of w = record { dl_src = w.dl_src.number; dl_dst = w.dl_dst.number; dl_vlan = w.dl_vlan.number; dl_vlan_pcp = w.dl_vlan_pcp.number; dl_type = w.dl_type.number; nw_tos = w.nw_tos.number; nw_proto = w.nw_proto.number; nw_src = w.nw_src.number; nw_dst = w.nw_dst.number; tp_src = w.tp_src.number; tp_dst = w.tp_dst.number }

valid_of : {m : Match} (w : Choices m) → IsValidHeader (header_of w)
valid_of w = record { dl_src = w.dl_src.fits; dl_dst = w.dl_dst.fits; dl_vlan = w.dl_vlan.fits; dl_vlan_pcp = w.dl_vlan_pcp.fits; dl_type = w.dl_type.fits; nw_tos = w.nw_tos.fits; nw_proto = w.nw_proto.fits; nw_src = w.nw_src.fits; nw_dst = w.nw_dst.fits; tp_src = w.tp_src.fits; tp_dst = w.tp_dst.fits }

taken_of : {m : Match} (w : Choices m) → Takes m w.in_port.number (header_of w)
taken_of w = record { in_port = w.in_port.taken; dl_src = w.dl_src.taken; dl_dst = w.dl_dst.taken; dl_vlan = w.dl_vlan.taken; dl_vlan_pcp = w.dl_vlan_pcp.taken; dl_type = w.dl_type.taken; nw_tos = w.nw_tos.taken; nw_proto = w.nw_proto.taken; nw_src = w.nw_src.taken; nw_dst = w.nw_dst.taken; tp_src = w.tp_src.taken; tp_dst = w.tp_dst.taken }

-- a field's own number, or zero
number_of : (bits : ℕ) (o : Option ℕ) → IsValidNumber bits o → Choice bits (TakesNumber o)
number_of bits o v = record { number = unwrap_or o 0; fits = given-fits bits o v; taken = given-taken o }

prefix_of : (o : Option (ℕ × ℕ)) → IsValidAddress o → Choice 32 (TakesAddress o)
prefix_of o v = record { number = address_of o; fits = given_address-fits o v; taken = given_address-taken o }

choices_of : (m : Match) → IsValidMatch m → Choices m
choices_of m v = record {
  in_port = number_of 16 m.in_port v.in_port;
  dl_src = number_of 48 m.dl_src v.dl_src;
  dl_dst = number_of 48 m.dl_dst v.dl_dst;
  dl_vlan = number_of 16 m.dl_vlan v.dl_vlan;
  dl_vlan_pcp = number_of 8 m.dl_vlan_pcp v.dl_vlan_pcp;
  dl_type = number_of 16 m.dl_type v.dl_type;
  nw_tos = number_of 8 m.nw_tos v.nw_tos;
  nw_proto = number_of 8 m.nw_proto v.nw_proto;
  nw_src = prefix_of m.nw_src v.nw_src;
  nw_dst = prefix_of m.nw_dst v.nw_dst;
  tp_src = number_of 16 m.tp_src v.tp_src;
  tp_dst = number_of 16 m.tp_dst v.tp_dst;
}

-- a match that covers another one takes what each choice for that one gives
taken_by_all : {m n : Match} → Covers m n → (w : Choices n) → Takes m w.in_port.number (header_of w)
taken_by_all all w = all w.in_port.number (header_of w) w.in_port.fits (valid_of w) (taken_of w)

-- the test of two matches holds where the one covers the other
pub covers-Covers : (m n : Match) → IsValidMatch m → IsValidMatch n → IsTrue (covers m n) ↔ Covers m n
unfolding covers
covers-Covers m n u v =
    let forth : IsTrue (covers m n) → Covers m n = λ all port h fits valid t.
    let w = parted _ _ _ _ _ _ _ _ _ _ _ _ all in
    record {
      in_port = covers_by-TakesNumber m.in_port n.in_port port w.in_port t.in_port;
      dl_src = covers_by-TakesNumber m.dl_src n.dl_src h.dl_src w.dl_src t.dl_src;
      dl_dst = covers_by-TakesNumber m.dl_dst n.dl_dst h.dl_dst w.dl_dst t.dl_dst;
      dl_vlan = covers_by-TakesNumber m.dl_vlan n.dl_vlan h.dl_vlan w.dl_vlan t.dl_vlan;
      dl_vlan_pcp = covers_by-TakesNumber m.dl_vlan_pcp n.dl_vlan_pcp h.dl_vlan_pcp w.dl_vlan_pcp t.dl_vlan_pcp;
      dl_type = covers_by-TakesNumber m.dl_type n.dl_type h.dl_type w.dl_type t.dl_type;
      nw_tos = covers_by-TakesNumber m.nw_tos n.nw_tos h.nw_tos w.nw_tos t.nw_tos;
      nw_proto = covers_by-TakesNumber m.nw_proto n.nw_proto h.nw_proto w.nw_proto t.nw_proto;
      nw_src = covers_address-TakesAddress m.nw_src n.nw_src h.nw_src v.nw_src w.nw_src t.nw_src;
      nw_dst = covers_address-TakesAddress m.nw_dst n.nw_dst h.nw_dst v.nw_dst w.nw_dst t.nw_dst;
      tp_src = covers_by-TakesNumber m.tp_src n.tp_src h.tp_src w.tp_src t.tp_src;
      tp_dst = covers_by-TakesNumber m.tp_dst n.tp_dst h.tp_dst w.tp_dst t.tp_dst;
    } in
    let some = choices_of n v in
    let back : Covers m n → IsTrue (covers m n) = λ all. joined record {
      in_port = TakesNumber-covers_by 16 (lit< tt) m.in_port n.in_port v.in_port
          (λ x fits t. (taken_by_all {m = m} all (record some { in_port = record { number = x; fits = fits; taken = t } })).in_port);
      dl_src = TakesNumber-covers_by 48 (lit< tt) m.dl_src n.dl_src v.dl_src
          (λ x fits t. (taken_by_all {m = m} all (record some { dl_src = record { number = x; fits = fits; taken = t } })).dl_src);
      dl_dst = TakesNumber-covers_by 48 (lit< tt) m.dl_dst n.dl_dst v.dl_dst
          (λ x fits t. (taken_by_all {m = m} all (record some { dl_dst = record { number = x; fits = fits; taken = t } })).dl_dst);
      dl_vlan = TakesNumber-covers_by 16 (lit< tt) m.dl_vlan n.dl_vlan v.dl_vlan
          (λ x fits t. (taken_by_all {m = m} all (record some { dl_vlan = record { number = x; fits = fits; taken = t } })).dl_vlan);
      dl_vlan_pcp = TakesNumber-covers_by 8 (lit< tt) m.dl_vlan_pcp n.dl_vlan_pcp v.dl_vlan_pcp
          (λ x fits t. (taken_by_all {m = m} all (record some { dl_vlan_pcp = record { number = x; fits = fits; taken = t } })).dl_vlan_pcp);
      dl_type = TakesNumber-covers_by 16 (lit< tt) m.dl_type n.dl_type v.dl_type
          (λ x fits t. (taken_by_all {m = m} all (record some { dl_type = record { number = x; fits = fits; taken = t } })).dl_type);
      nw_tos = TakesNumber-covers_by 8 (lit< tt) m.nw_tos n.nw_tos v.nw_tos
          (λ x fits t. (taken_by_all {m = m} all (record some { nw_tos = record { number = x; fits = fits; taken = t } })).nw_tos);
      nw_proto = TakesNumber-covers_by 8 (lit< tt) m.nw_proto n.nw_proto v.nw_proto
          (λ x fits t. (taken_by_all {m = m} all (record some { nw_proto = record { number = x; fits = fits; taken = t } })).nw_proto);
      nw_src = TakesAddress-covers_address m.nw_src n.nw_src u.nw_src v.nw_src
          (λ x fits t. (taken_by_all {m = m} all (record some { nw_src = record { number = x; fits = fits; taken = t } })).nw_src);
      nw_dst = TakesAddress-covers_address m.nw_dst n.nw_dst u.nw_dst v.nw_dst
          (λ x fits t. (taken_by_all {m = m} all (record some { nw_dst = record { number = x; fits = fits; taken = t } })).nw_dst);
      tp_src = TakesNumber-covers_by 16 (lit< tt) m.tp_src n.tp_src v.tp_src
          (λ x fits t. (taken_by_all {m = m} all (record some { tp_src = record { number = x; fits = fits; taken = t } })).tp_src);
      tp_dst = TakesNumber-covers_by 16 (lit< tt) m.tp_dst n.tp_dst v.tp_dst
          (λ x fits t. (taken_by_all {m = m} all (record some { tp_dst = record { number = x; fits = fits; taken = t } })).tp_dst);
    } in
    (forth, back)

-- the test of two matches holds where they overlap
pub overlaps-Overlaps : (m n : Match) → IsValidMatch m → IsValidMatch n → IsTrue (overlaps m n) ↔ Overlaps m n
unfolding overlaps
overlaps-Overlaps m n u v =
    let forth : IsTrue (overlaps m n) → Overlaps m n = λ all.
    let w = parted _ _ _ _ _ _ _ _ _ _ _ _ all in
    let in_port = overlaps_by-shared 16 m.in_port n.in_port u.in_port v.in_port w.in_port in
    let dl_src = overlaps_by-shared 48 m.dl_src n.dl_src u.dl_src v.dl_src w.dl_src in
    let dl_dst = overlaps_by-shared 48 m.dl_dst n.dl_dst u.dl_dst v.dl_dst w.dl_dst in
    let dl_vlan = overlaps_by-shared 16 m.dl_vlan n.dl_vlan u.dl_vlan v.dl_vlan w.dl_vlan in
    let dl_vlan_pcp = overlaps_by-shared 8 m.dl_vlan_pcp n.dl_vlan_pcp u.dl_vlan_pcp v.dl_vlan_pcp w.dl_vlan_pcp in
    let dl_type = overlaps_by-shared 16 m.dl_type n.dl_type u.dl_type v.dl_type w.dl_type in
    let nw_tos = overlaps_by-shared 8 m.nw_tos n.nw_tos u.nw_tos v.nw_tos w.nw_tos in
    let nw_proto = overlaps_by-shared 8 m.nw_proto n.nw_proto u.nw_proto v.nw_proto w.nw_proto in
    let nw_src = overlaps_address-shared m.nw_src n.nw_src u.nw_src v.nw_src w.nw_src in
    let nw_dst = overlaps_address-shared m.nw_dst n.nw_dst u.nw_dst v.nw_dst w.nw_dst in
    let tp_src = overlaps_by-shared 16 m.tp_src n.tp_src u.tp_src v.tp_src w.tp_src in
    let tp_dst = overlaps_by-shared 16 m.tp_dst n.tp_dst u.tp_dst v.tp_dst w.tp_dst in
    record {
      port = in_port.0;
      header = record { dl_src = dl_src.0; dl_dst = dl_dst.0; dl_vlan = dl_vlan.0; dl_vlan_pcp = dl_vlan_pcp.0; dl_type = dl_type.0; nw_tos = nw_tos.0; nw_proto = nw_proto.0; nw_src = nw_src.0; nw_dst = nw_dst.0; tp_src = tp_src.0; tp_dst = tp_dst.0 };
      port_fits = in_port.1;
      valid = record { dl_src = dl_src.1; dl_dst = dl_dst.1; dl_vlan = dl_vlan.1; dl_vlan_pcp = dl_vlan_pcp.1; dl_type = dl_type.1; nw_tos = nw_tos.1; nw_proto = nw_proto.1; nw_src = nw_src.1; nw_dst = nw_dst.1; tp_src = tp_src.1; tp_dst = tp_dst.1 };
      one = record { in_port = in_port.2; dl_src = dl_src.2; dl_dst = dl_dst.2; dl_vlan = dl_vlan.2; dl_vlan_pcp = dl_vlan_pcp.2; dl_type = dl_type.2; nw_tos = nw_tos.2; nw_proto = nw_proto.2; nw_src = nw_src.2; nw_dst = nw_dst.2; tp_src = tp_src.2; tp_dst = tp_dst.2 };
      both = record { in_port = in_port.3; dl_src = dl_src.3; dl_dst = dl_dst.3; dl_vlan = dl_vlan.3; dl_vlan_pcp = dl_vlan_pcp.3; dl_type = dl_type.3; nw_tos = nw_tos.3; nw_proto = nw_proto.3; nw_src = nw_src.3; nw_dst = nw_dst.3; tp_src = tp_src.3; tp_dst = tp_dst.3 };
    } in
    let back : Overlaps m n → IsTrue (overlaps m n) = λ o. joined record {
      in_port = TakesNumber-overlaps_by m.in_port n.in_port o.port o.one.in_port o.both.in_port;
      dl_src = TakesNumber-overlaps_by m.dl_src n.dl_src o.header.dl_src o.one.dl_src o.both.dl_src;
      dl_dst = TakesNumber-overlaps_by m.dl_dst n.dl_dst o.header.dl_dst o.one.dl_dst o.both.dl_dst;
      dl_vlan = TakesNumber-overlaps_by m.dl_vlan n.dl_vlan o.header.dl_vlan o.one.dl_vlan o.both.dl_vlan;
      dl_vlan_pcp = TakesNumber-overlaps_by m.dl_vlan_pcp n.dl_vlan_pcp o.header.dl_vlan_pcp o.one.dl_vlan_pcp o.both.dl_vlan_pcp;
      dl_type = TakesNumber-overlaps_by m.dl_type n.dl_type o.header.dl_type o.one.dl_type o.both.dl_type;
      nw_tos = TakesNumber-overlaps_by m.nw_tos n.nw_tos o.header.nw_tos o.one.nw_tos o.both.nw_tos;
      nw_proto = TakesNumber-overlaps_by m.nw_proto n.nw_proto o.header.nw_proto o.one.nw_proto o.both.nw_proto;
      nw_src = TakesAddress-overlaps_address m.nw_src n.nw_src o.header.nw_src u.nw_src v.nw_src o.one.nw_src o.both.nw_src;
      nw_dst = TakesAddress-overlaps_address m.nw_dst n.nw_dst o.header.nw_dst u.nw_dst v.nw_dst o.one.nw_dst o.both.nw_dst;
      tp_src = TakesNumber-overlaps_by m.tp_src n.tp_src o.header.tp_src o.one.tp_src o.both.tp_src;
      tp_dst = TakesNumber-overlaps_by m.tp_dst n.tp_dst o.header.tp_dst o.one.tp_dst o.both.tp_dst;
    } in
    (forth, back)

-- a valid match covers itself, and overlaps itself by its own fields
pub covers-itself : (m : Match) → IsValidMatch m → IsTrue (covers m m)
covers-itself m v = (covers-Covers m m v v).1 (λ port h fits valid t. t)

pub overlaps-itself : (m : Match) → IsValidMatch m → IsTrue (overlaps m m)
overlaps-itself m v =
    let w = choices_of m v in
    (overlaps-Overlaps m m v v).1 record { port = w.in_port.number; header = header_of w; port_fits = w.in_port.fits; valid = valid_of w; one = taken_of w; both = taken_of w }

-- two fields are equal where `==` says so
option_eq-Decides : {X : Type 0} (eq : X → X → Bool) → ((x y : X) → Decides (eq x y) (x ≡ y)) → (o s : Option X) → Decides (option_eq eq o s) (o ≡ s)
option_eq-Decides eq each None None = (λ _. refl, λ _. refl)
option_eq-Decides eq each None (Some y) = (λ h. cc, λ h. cc)
option_eq-Decides eq each (Some x) None = (λ h. cc, λ h. cc)
option_eq-Decides eq each (Some x) (Some y) = (λ h. ap Some ((each x y).0 h), λ h. (each x y).1 (cc))

-- two addresses with their counts
pair_eq-Decides : (p q : ℕ × ℕ) → Decides (same_prefix p q) (p ≡ q)
pair_eq-Decides p q =
    let forth : (nat_eq p.0 q.0 && nat_eq p.1 q.1) ≡ true → p ≡ q = λ h.
    let w = and_parts (nat_eq p.0 q.0) (nat_eq p.1 q.1) h in
    let first = (Decides-eqb p.0 q.0).0 w.0 in
    let second = (Decides-eqb p.1 q.1).0 w.1 in
    let e : (p.0, p.1) ≡ (q.0, q.1) = rw (first, second) refl in e in
    let back : p ≡ q → (nat_eq p.0 q.0 && nat_eq p.1 q.1) ≡ true = λ e.
    rw ((Decides-eqb p.0 q.0).1 (ap (λ (r : ℕ × ℕ). r.0) e), (Decides-eqb p.1 q.1).1 (ap (λ (r : ℕ × ℕ). r.1) e)) refl in
    (forth, back)

numbers_eq : (o s : Option ℕ) → Decides (option_eq nat_eq o s) (o ≡ s)
numbers_eq = option_eq-Decides nat_eq Decides-eqb

addresses_eq : (o s : Option (ℕ × ℕ)) → Decides (option_eq same_prefix o s) (o ≡ s)
addresses_eq = option_eq-Decides same_prefix pair_eq-Decides

-- two matches with the same fields are one
pub fields-≡ : (m n : Match) → m.in_port ≡ n.in_port → m.dl_src ≡ n.dl_src → m.dl_dst ≡ n.dl_dst → m.dl_vlan ≡ n.dl_vlan → m.dl_vlan_pcp ≡ n.dl_vlan_pcp → m.dl_type ≡ n.dl_type → m.nw_tos ≡ n.nw_tos → m.nw_proto ≡ n.nw_proto → m.nw_src ≡ n.nw_src → m.nw_dst ≡ n.nw_dst → m.tp_src ≡ n.tp_src → m.tp_dst ≡ n.tp_dst → m ≡ n
fields-≡ m n in_port dl_src dl_dst dl_vlan dl_vlan_pcp dl_type nw_tos nw_proto nw_src nw_dst tp_src tp_dst =
    let e : record { in_port = m.in_port; dl_src = m.dl_src; dl_dst = m.dl_dst; dl_vlan = m.dl_vlan; dl_vlan_pcp = m.dl_vlan_pcp; dl_type = m.dl_type; nw_tos = m.nw_tos; nw_proto = m.nw_proto; nw_src = m.nw_src; nw_dst = m.nw_dst; tp_src = m.tp_src; tp_dst = m.tp_dst } ≡ record { in_port = n.in_port; dl_src = n.dl_src; dl_dst = n.dl_dst; dl_vlan = n.dl_vlan; dl_vlan_pcp = n.dl_vlan_pcp; dl_type = n.dl_type; nw_tos = n.nw_tos; nw_proto = n.nw_proto; nw_src = n.nw_src; nw_dst = n.nw_dst; tp_src = n.tp_src; tp_dst = n.tp_dst } = rw (in_port, dl_src, dl_dst, dl_vlan, dl_vlan_pcp, dl_type, nw_tos, nw_proto, nw_src, nw_dst, tp_src, tp_dst) refl in e

-- two matches are one where each field is
pub same-≡ : (m n : Match) → IsTrue (same m n) ↔ (m ≡ n)
unfolding same
same-≡ m n =
    let forth : IsTrue (same m n) → m ≡ n = λ all.
    let in_port = and_parts _ _ all in
    let dl_src = and_parts _ _ in_port.1 in
    let dl_dst = and_parts _ _ dl_src.1 in
    let dl_vlan = and_parts _ _ dl_dst.1 in
    let dl_vlan_pcp = and_parts _ _ dl_vlan.1 in
    let dl_type = and_parts _ _ dl_vlan_pcp.1 in
    let nw_tos = and_parts _ _ dl_type.1 in
    let nw_proto = and_parts _ _ nw_tos.1 in
    let nw_src = and_parts _ _ nw_proto.1 in
    let nw_dst = and_parts _ _ nw_src.1 in
    let tp_src = and_parts _ _ nw_dst.1 in
    fields-≡ m n
    ((numbers_eq m.in_port n.in_port).0 in_port.0)
    ((numbers_eq m.dl_src n.dl_src).0 dl_src.0)
    ((numbers_eq m.dl_dst n.dl_dst).0 dl_dst.0)
    ((numbers_eq m.dl_vlan n.dl_vlan).0 dl_vlan.0)
    ((numbers_eq m.dl_vlan_pcp n.dl_vlan_pcp).0 dl_vlan_pcp.0)
    ((numbers_eq m.dl_type n.dl_type).0 dl_type.0)
    ((numbers_eq m.nw_tos n.nw_tos).0 nw_tos.0)
    ((numbers_eq m.nw_proto n.nw_proto).0 nw_proto.0)
    ((addresses_eq m.nw_src n.nw_src).0 nw_src.0)
    ((addresses_eq m.nw_dst n.nw_dst).0 nw_dst.0)
    ((numbers_eq m.tp_src n.tp_src).0 tp_src.0)
    ((numbers_eq m.tp_dst n.tp_dst).0 tp_src.1) in
    let back : m ≡ n → IsTrue (same m n) = λ e. rw (
      (numbers_eq m.in_port n.in_port).1 (ap (λ (r : Match). r.in_port) e),
      (numbers_eq m.dl_src n.dl_src).1 (ap (λ (r : Match). r.dl_src) e),
      (numbers_eq m.dl_dst n.dl_dst).1 (ap (λ (r : Match). r.dl_dst) e),
      (numbers_eq m.dl_vlan n.dl_vlan).1 (ap (λ (r : Match). r.dl_vlan) e),
      (numbers_eq m.dl_vlan_pcp n.dl_vlan_pcp).1 (ap (λ (r : Match). r.dl_vlan_pcp) e),
      (numbers_eq m.dl_type n.dl_type).1 (ap (λ (r : Match). r.dl_type) e),
      (numbers_eq m.nw_tos n.nw_tos).1 (ap (λ (r : Match). r.nw_tos) e),
      (numbers_eq m.nw_proto n.nw_proto).1 (ap (λ (r : Match). r.nw_proto) e),
      (addresses_eq m.nw_src n.nw_src).1 (ap (λ (r : Match). r.nw_src) e),
      (addresses_eq m.nw_dst n.nw_dst).1 (ap (λ (r : Match). r.nw_dst) e),
      (numbers_eq m.tp_src n.tp_src).1 (ap (λ (r : Match). r.tp_src) e),
      (numbers_eq m.tp_dst n.tp_dst).1 (ap (λ (r : Match). r.tp_dst) e),
    ) refl in
    (forth, back)
