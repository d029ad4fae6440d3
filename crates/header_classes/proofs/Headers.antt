-- Headers as lists of their fields, and cells as boxes of them.
use Rattle.std.proofs.Common.{◌≡◌, ◌≢◌, ◌∙◌, ◌<◌, ◌&&◌, ◌^◌, ℕ, Bool, true, false, List, [], ◌∷◌, length, map, get_or, set, nat_eq, refl, sym, ap, arith}
use Rattle.std.proofs.Math.Bool.{and_assoc}
use Rattle.std.proofs.lemmas.List.FromFn.{fill_by_all}
use Rattle.std.proofs.lemmas.Slice.Zip.{AllZip-long}
use Rattle.std.specs.Cmp.Lexicographic.{slice_cmp}
use Rattle.std.specs.List.{AllZip}
use Rattle.std.specs.Ordering.{nat_cmp, ordering_then}
use Rattle.std.specs.declared.cmp.Ordering.{Ordering}
use Rattle.std.specs.declared.cmp.Ordering.TheVariants.{Equal, Greater, Less}
use Rattle.of10_match.specs.Field.{takes_address, takes_by}
use Rattle.of10_match.specs.Header.{IsValidHeader, header_cmp}
use Rattle.of10_match.specs.Match.{takes}
use Rattle.of10_match.specs.declared.header.Header.{Header}
use Rattle.of10_match.specs.declared.matches.Match.{Match}
use Rattle.header_classes.specs.declared.interval.Interval.{Interval}
use Rattle.header_classes.specs.Interval.{IsInterval, within}
use Rattle.header_classes.specs.Cell.{IsCell, each_within, fields, in_cell, widths}
use Rattle.header_classes.proofs.Boxes.{at_width, lows_inside, lows_least, numbers_fit, set_width}

pub length-fields : (h : Header) → length (fields h) ≡ 11
unfolding fields
length-fields h = refl

pub length-cell : (cell : List Interval) → IsCell cell → length cell ≡ 11
unfolding widths
length-cell cell valid = AllZip-long IsInterval widths cell valid

-- ---- one field of a cell

pub cell_at : (cell : List Interval) (at : ℕ) → IsCell cell → at < 11 → IsInterval (get_or widths at 0) (get_or cell at record { low = 0; high = 0 })
unfolding widths
cell_at cell at valid fits = at_width widths cell at record { low = 0; high = 0 } valid fits

-- each low end has the width of its field
pub low_fits : (cell : List Interval) (at : ℕ) → IsCell cell → at < 11 → (get_or cell at record { low = 0; high = 0 }).low < 2 ^ get_or widths at 0
low_fits cell at valid fits = let interval = cell_at cell at valid fits in omega (arith, interval.ordered, interval.fits)

pub cell_set : (cell : List Interval) (at : ℕ) (new : Interval) → IsCell cell → IsInterval (get_or widths at 0) new → IsCell (set cell at new)
cell_set cell at new valid fits = set_width widths cell at new valid fits

-- ---- valid headers

-- a header in a cell is valid
pub in_cell-valid : (cell : List Interval) (h : Header) → IsCell cell → in_cell cell h ≡ true → IsValidHeader h
unfolding fields widths
in_cell-valid cell h valid inside =
    let all : AllZip (λ w x. x < 2 ^ w) widths (fields h) = numbers_fit widths cell (fields h) valid refl inside in
    record {
      dl_src = all.0;
      dl_dst = all.1.0;
      dl_vlan = all.1.1.0;
      dl_vlan_pcp = all.1.1.1.0;
      dl_type = all.1.1.1.1.0;
      nw_tos = all.1.1.1.1.1.0;
      nw_proto = all.1.1.1.1.1.1.0;
      nw_src = all.1.1.1.1.1.1.1.0;
      nw_dst = all.1.1.1.1.1.1.1.1.0;
      tp_src = all.1.1.1.1.1.1.1.1.1.0;
      tp_dst = all.1.1.1.1.1.1.1.1.1.1.0;
    }

-- ---- what a match takes

-- one field more
both : {a b c d : Bool} → a ≡ b → c ≡ d → (a && c) ≡ (b && d)
both p q = rw (p, q) refl

pub and-true : (a : Bool) → (a && true) ≡ a
and-true true = refl
and-true false = refl

regroup : (z a b c d e f g h i j k : Bool) → (z && a && b && c && d && e && f && g && h && i && j && k) ≡ (z && (a && (b && (c && (d && (e && (f && (g && (h && (i && (j && (k && true))))))))))))
regroup z a b c d e f g h i j k = simp (and_assoc, and-true)

-- a match takes a packet where it takes the port, and each interval takes what its field takes
pub taken_box : (m : Match) (port : ℕ) (h : Header) (a b c d e f g i j k l : Interval)
    → within a h.dl_src ≡ takes_by nat_eq m.dl_src h.dl_src
    → within b h.dl_dst ≡ takes_by nat_eq m.dl_dst h.dl_dst
    → within c h.dl_vlan ≡ takes_by nat_eq m.dl_vlan h.dl_vlan
    → within d h.dl_vlan_pcp ≡ takes_by nat_eq m.dl_vlan_pcp h.dl_vlan_pcp
    → within e h.dl_type ≡ takes_by nat_eq m.dl_type h.dl_type
    → within f h.nw_tos ≡ takes_by nat_eq m.nw_tos h.nw_tos
    → within g h.nw_proto ≡ takes_by nat_eq m.nw_proto h.nw_proto
    → within i h.nw_src ≡ takes_address m.nw_src h.nw_src
    → within j h.nw_dst ≡ takes_address m.nw_dst h.nw_dst
    → within k h.tp_src ≡ takes_by nat_eq m.tp_src h.tp_src
    → within l h.tp_dst ≡ takes_by nat_eq m.tp_dst h.tp_dst
    → takes m port h ≡ (takes_by nat_eq m.in_port port && in_cell (a ∷ b ∷ c ∷ d ∷ e ∷ f ∷ g ∷ i ∷ j ∷ k ∷ l ∷ []) h)
unfolding takes fields
taken_box m port h a b c d e f g i j k l pa pb pc pd pe pf pg pi pj pk pl =
    regroup (takes_by nat_eq m.in_port port) (takes_by nat_eq m.dl_src h.dl_src) (takes_by nat_eq m.dl_dst h.dl_dst) (takes_by nat_eq m.dl_vlan h.dl_vlan)
    (takes_by nat_eq m.dl_vlan_pcp h.dl_vlan_pcp) (takes_by nat_eq m.dl_type h.dl_type) (takes_by nat_eq m.nw_tos h.nw_tos) (takes_by nat_eq m.nw_proto h.nw_proto)
    (takes_address m.nw_src h.nw_src) (takes_address m.nw_dst h.nw_dst) (takes_by nat_eq m.tp_src h.tp_src) (takes_by nat_eq m.tp_dst h.tp_dst)
    ∙ sym (both {a = takes_by nat_eq m.in_port port} refl (both pa (both pb (both pc (both pd (both pe (both pf (both pg (both pi (both pj (both pk (both pl refl))))))))))))

-- ---- the order of headers

then_equal : (o : Ordering) → ordering_then o Equal ≡ o
then_equal Less = refl
then_equal Equal = refl
then_equal Greater = refl

-- headers are ordered as the lists of their fields are
pub header_cmp-fields : (a b : Header) → header_cmp a b ≡ slice_cmp nat_cmp (fields a) (fields b)
unfolding fields
header_cmp-fields a b = simp then_equal

-- ---- the header of the low ends

-- the low ends of a cell, one by one
pub lows : (cell : List Interval) → IsCell cell → fields record {
  dl_src = (get_or cell 0 record { low = 0; high = 0 }).low;
  dl_dst = (get_or cell 1 record { low = 0; high = 0 }).low;
  dl_vlan = (get_or cell 2 record { low = 0; high = 0 }).low;
  dl_vlan_pcp = (get_or cell 3 record { low = 0; high = 0 }).low;
  dl_type = (get_or cell 4 record { low = 0; high = 0 }).low;
  nw_tos = (get_or cell 5 record { low = 0; high = 0 }).low;
  nw_proto = (get_or cell 6 record { low = 0; high = 0 }).low;
  nw_src = (get_or cell 7 record { low = 0; high = 0 }).low;
  nw_dst = (get_or cell 8 record { low = 0; high = 0 }).low;
  tp_src = (get_or cell 9 record { low = 0; high = 0 }).low;
  tp_dst = (get_or cell 10 record { low = 0; high = 0 }).low;
} ≡ map (λ (i : Interval). i.low) cell
unfolding fields
lows cell valid =
    let none : Interval = record { low = 0; high = 0 } in
    let listed = fill_by_all (λ k. get_or cell k none) cell 11 none (length-cell cell valid) (λ k below. refl) in
    ap (map (λ (i : Interval). i.low)) (sym listed)

-- the low ends lie in the cell
pub least_inside : (cell : List Interval) (least : Header) → IsCell cell → fields least ≡ map (λ (i : Interval). i.low) cell → in_cell cell least ≡ true
least_inside cell least valid is = ap (each_within cell) is ∙ lows_inside widths cell valid

-- no header of the cell is less than that of the low ends
pub least_least : (cell : List Interval) (least h : Header) → IsCell cell → fields least ≡ map (λ (i : Interval). i.low) cell → in_cell cell h ≡ true → header_cmp h least ≢ Less
least_least cell least h valid is inside less =
    lows_least cell (fields h) (length-fields h ∙ sym (length-cell cell valid)) inside
    (ap (slice_cmp nat_cmp (fields h)) (sym is) ∙ sym (header_cmp-fields h least) ∙ less)
