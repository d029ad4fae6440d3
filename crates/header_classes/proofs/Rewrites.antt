-- What sets make of headers, one field at a time.
use Rattle.std.proofs.Common.{◌≡◌, ◌≢◌, ◌∙◌, ◌<◌, ◌&&◌, ◌^◌, ◌↔◌, ℕ, zero, suc, Bool, true, false, IsTrue, List, [], ◌∷◌, length, get_or, take, set, slice_get, Option, Some, None, unwrap_or, nat_eq, inl, inr, refl, sym, ap, subst, lit<, arith}
use Rattle.std.proofs.Math.Bool.{and_assoc}
use Rattle.std.proofs.lemmas.Bool.{and_from, and_parts, both_ways, cases_lt, eq-eqb, eqb-true}
use Rattle.std.proofs.lemmas.List.{take_all}
use Rattle.std.specs.List.{AllZip}
use Rattle.of10_match.specs.Field.{IsValidNumber}
use Rattle.of10_match.specs.Header.{IsValidHeader}
use Rattle.of10_match.specs.declared.header.Header.{Header}
use Rattle.header_classes.specs.declared.interval.Interval.{Interval}
use Rattle.header_classes.specs.declared.rewrite.Rewrite.{Rewrite}
use Rattle.header_classes.specs.Interval.{within}
use Rattle.header_classes.specs.Cell.{each_within, fields, in_cell, widths}
use Rattle.header_classes.specs.Rewrite.{IsValidRewrite, numbers, rewritten}
use Rattle.header_classes.proofs.Boxes.{each_within-more, inside_at, outside}
use Rattle.header_classes.proofs.Cuts.{field_fits}
use Rattle.header_classes.proofs.Headers.{and-true}

-- ---- one field

-- what holds at each place of two lists
zip_at : {A B : Type 0} (R : A → B → Type 0) (xs : List A) (ys : List B) (at : ℕ) (d : A) (e : B) → AllZip R xs ys → at < length xs → R (get_or xs at d) (get_or ys at e)
zip_at R [] ys at d e all fits = absurd (omega arith)
zip_at R (x ∷ xs) [] at d e all fits = absurd all
zip_at R (x ∷ xs) (y ∷ ys) zero d e all fits = all.0
zip_at R (x ∷ xs) (y ∷ ys) (suc at) d e all fits = zip_at R xs ys at d e all.1 (omega arith)

-- each number of a valid header has the width of its field
pub header_at : (h : Header) (at : ℕ) → IsValidHeader h → at < 11 → get_or (fields h) at 0 < 2 ^ get_or widths at 0
unfolding fields widths
header_at h at valid fits = zip_at (λ w x. x < 2 ^ w) widths (fields h) at 0 0
    (valid.dl_src, (valid.dl_dst, (valid.dl_vlan, (valid.dl_vlan_pcp, (valid.dl_type, (valid.nw_tos, (valid.nw_proto, (valid.nw_src, (valid.nw_dst, (valid.tp_src, (valid.tp_dst, tt))))))))))) fits

-- each number that was set has the width of its field
pub number_at : (os : List (Option ℕ)) (at : ℕ) → AllZip IsValidNumber widths os → at < 11 → IsValidNumber (get_or widths at 0) (get_or os at None)
unfolding widths
number_at os at valid fits = zip_at IsValidNumber widths os at 0 None valid fits

-- numbers that are put in the place of others, where they are given
put : List (Option ℕ) → List ℕ → List ℕ
put [] xs = xs
put (o ∷ os) [] = []
put (o ∷ os) (x ∷ xs) = unwrap_or o x ∷ put os xs

put_at : (os : List (Option ℕ)) (xs : List ℕ) (at : ℕ) → at < length os → at < length xs → get_or (put os xs) at 0 ≡ unwrap_or (get_or os at None) (get_or xs at 0)
unfolding put
put_at [] xs at fits long = absurd (omega arith)
put_at (o ∷ os) [] at fits long = absurd (omega arith)
put_at (o ∷ os) (x ∷ xs) zero fits long = refl
put_at (o ∷ os) (x ∷ xs) (suc at) fits long = put_at os xs at (omega arith) (omega arith)

-- a field after the sets
pub rewritten_at : (sets : Rewrite) (h : Header) (at : ℕ) → at < 11 → get_or (fields (rewritten sets h)) at 0 ≡ unwrap_or (get_or (numbers sets) at None) (get_or (fields h) at 0)
unfolding fields numbers put
rewritten_at sets h at fits = put_at (numbers sets) (fields h) at fits fits

-- a box of one field more, of which the last one is new
pub each_within-put : (part : List Interval) (xs : List ℕ) (at : ℕ) (new : Interval) → at < length part → at < length xs
    → each_within (take (suc at) (set part at new)) xs ≡ (each_within (take at part) xs && within new (get_or xs at 0))
each_within-put [] xs at new fits long = absurd (omega arith)
each_within-put (i ∷ is) [] at new fits long = absurd (omega arith)
each_within-put (i ∷ is) (x ∷ xs) zero new fits long = and-true (within new x)
each_within-put (i ∷ is) (x ∷ xs) (suc at) new fits long =
    ap (λ (b : Bool). within i x && b) (each_within-put is xs at new (omega arith) (omega arith)) ∙ sym (and_assoc (within i x) (each_within (take at is) xs) (within new (get_or xs at 0)))

-- a cell of all its fields
pub all_fields : (cell : List Interval) (h : Header) → length cell ≡ 11 → each_within (take 11 cell) (fields h) ≡ in_cell cell h
all_fields cell h long = ap (λ (is : List Interval). each_within is (fields h)) (take_all 11 cell (omega arith))

-- ---- valid headers

-- a number that is put in the place of another has as few bits as both
fits_either : (bits : ℕ) (o : Option ℕ) (x : ℕ) → IsValidNumber bits o → x < 2 ^ bits → unwrap_or o x < 2 ^ bits
fits_either bits None x valid fits = fits
fits_either bits (Some y) x valid fits = valid

-- valid sets make a valid header of a valid one
pub rewritten_valid : (sets : Rewrite) (h : Header) → IsValidRewrite sets → IsValidHeader h → IsValidHeader (rewritten sets h)
rewritten_valid sets h valid header = record {
  dl_src = fits_either 48 sets.dl_src h.dl_src valid.dl_src header.dl_src;
  dl_dst = fits_either 48 sets.dl_dst h.dl_dst valid.dl_dst header.dl_dst;
  dl_vlan = fits_either 16 sets.dl_vlan h.dl_vlan valid.dl_vlan header.dl_vlan;
  dl_vlan_pcp = fits_either 8 sets.dl_vlan_pcp h.dl_vlan_pcp valid.dl_vlan_pcp header.dl_vlan_pcp;
  dl_type = fits_either 16 sets.dl_type h.dl_type valid.dl_type header.dl_type;
  nw_tos = fits_either 8 sets.nw_tos h.nw_tos valid.nw_tos header.nw_tos;
  nw_proto = fits_either 8 sets.nw_proto h.nw_proto valid.nw_proto header.nw_proto;
  nw_src = fits_either 32 sets.nw_src h.nw_src valid.nw_src header.nw_src;
  nw_dst = fits_either 32 sets.nw_dst h.nw_dst valid.nw_dst header.nw_dst;
  tp_src = fits_either 16 sets.tp_src h.tp_src valid.tp_src header.tp_src;
  tp_dst = fits_either 16 sets.tp_dst h.tp_dst valid.tp_dst header.tp_dst;
}

-- ---- what comes into a cell

-- so far the part has the headers that come into the cell by the fields so far
abbrev pub Brings : Rewrite → List Interval → List Interval → ℕ → Type 0
Brings sets cell part at = (h : Header) → IsValidHeader h → each_within (take at part) (fields h) ≡ each_within (take at cell) (fields (rewritten sets h))

pub brings_more : (sets : Rewrite) (cell part : List Interval) (at : ℕ) (old new : Interval) → slice_get cell at ≡ Some old → at < 11 → length part ≡ 11 → Brings sets cell part at
    → ((x : ℕ) → x < 2 ^ get_or widths at 0 → within new x ≡ within old (unwrap_or (get_or (numbers sets) at None) x)) → Brings sets cell (set part at new) (suc at)
brings_more sets cell part at old new here fits long so_far is = λ h valid.
    let x = get_or (fields h) at 0 in
    each_within-put part (fields h) at new (omega arith) (field_fits h at fits)
    ∙ ap (λ (b : Bool). b && within new x) (so_far h valid)
    ∙ ap (λ (b : Bool). each_within (take at cell) (fields (rewritten sets h)) && b) (is x (header_at h at valid fits) ∙ ap (within old) (sym (rewritten_at sets h at fits)))
    ∙ sym (each_within-more cell (fields (rewritten sets h)) at old here (field_fits (rewritten sets h) at fits))

-- a field in which no number comes into the interval
pub brings_none : (sets : Rewrite) (cell : List Interval) (h : Header) (at : ℕ) (old : Interval) → slice_get cell at ≡ Some old → at < 11 → IsValidHeader h
    → ((x : ℕ) → x < 2 ^ get_or widths at 0 → false ≡ within old (unwrap_or (get_or (numbers sets) at None) x)) → in_cell cell (rewritten sets h) ≡ false
brings_none sets cell h at old here fits valid none =
    outside cell (fields (rewritten sets h)) at old here (field_fits (rewritten sets h) at fits)
    (ap (within old) (rewritten_at sets h at fits) ∙ sym (none (get_or (fields h) at 0) (header_at h at valid fits)))

-- ---- what becomes the same

-- so far the part has the headers that become the same by the fields so far
abbrev pub SameUpTo : Rewrite → Rewrite → List Interval → ℕ → Type 0
SameUpTo one two part at = (h : Header) → IsValidHeader h
    → IsTrue (each_within (take at part) (fields h)) ↔ ((k : ℕ) → k < at → get_or (fields (rewritten one h)) k 0 ≡ get_or (fields (rewritten two h)) k 0)

pub same_more : (one two : Rewrite) (part : List Interval) (at : ℕ) (new : Interval) → at < 11 → length part ≡ 11 → SameUpTo one two part at
    → ((x : ℕ) → x < 2 ^ get_or widths at 0 → within new x ≡ nat_eq (unwrap_or (get_or (numbers one) at None) x) (unwrap_or (get_or (numbers two) at None) x))
    → SameUpTo one two (set part at new) (suc at)
same_more one two part at new fits long so_far is = λ h valid.
    let x = get_or (fields h) at 0 in
    let more = each_within-put part (fields h) at new (omega arith) (field_fits h at fits) in
    let here : within new x ≡ nat_eq (get_or (fields (rewritten one h)) at 0) (get_or (fields (rewritten two h)) at 0) =
    rw (rewritten_at one h at fits, rewritten_at two h at fits) (is x (header_at h at valid fits)) in (
      λ inside k below.
          let parts = and_parts (each_within (take at part) (fields h)) (within new x) (sym more ∙ inside) in
          elim (cases_lt k at) [
            | inl less ↦ (so_far h valid).0 parts.0 k less
            | inr most ↦
                let last : at ≡ k = omega arith in
                subst (λ (j : ℕ). get_or (fields (rewritten one h)) j 0 ≡ get_or (fields (rewritten two h)) j 0) last (eqb-true _ _ (sym here ∙ parts.1))
          ],
      λ same.
          more ∙ and_from (each_within (take at part) (fields h)) (within new x) ((so_far h valid).1 (λ k below. same k (omega arith)))
          (here ∙ eq-eqb _ _ (same at (omega arith))),
    )

-- a field in which no number becomes the same
pub same_none : (one two : Rewrite) (h : Header) (at : ℕ) → at < 11 → IsValidHeader h
    → ((x : ℕ) → x < 2 ^ get_or widths at 0 → false ≡ nat_eq (unwrap_or (get_or (numbers one) at None) x) (unwrap_or (get_or (numbers two) at None) x))
    → rewritten one h ≢ rewritten two h
same_none one two h at fits valid none same =
    let here : false ≡ nat_eq (get_or (fields (rewritten one h)) at 0) (get_or (fields (rewritten two h)) at 0) =
    rw (rewritten_at one h at fits, rewritten_at two h at fits) (none (get_or (fields h) at 0) (header_at h at valid fits)) in
    both_ways (nat_eq (get_or (fields (rewritten one h)) at 0) (get_or (fields (rewritten two h)) at 0)) (sym here)
    (eq-eqb _ _ (ap (λ (g : Header). get_or (fields g) at 0) same))

-- the header whose fields are given by their places
header_by : (ℕ → ℕ) → Header
header_by at = record {
  dl_src = at 0;
  dl_dst = at 1;
  dl_vlan = at 2;
  dl_vlan_pcp = at 3;
  dl_type = at 4;
  nw_tos = at 5;
  nw_proto = at 6;
  nw_src = at 7;
  nw_dst = at 8;
  tp_src = at 9;
  tp_dst = at 10;
}

-- headers are one where each of their fields is
one_header : (g h : Header) → ((k : ℕ) → k < 11 → get_or (fields g) k 0 ≡ get_or (fields h) k 0) → g ≡ h
unfolding fields header_by
one_header g h same =
    let e : header_by (λ k. get_or (fields g) k 0) ≡ header_by (λ k. get_or (fields h) k 0) = rw (
      same 0 (lit< tt),
      same 1 (lit< tt),
      same 2 (lit< tt),
      same 3 (lit< tt),
      same 4 (lit< tt),
      same 5 (lit< tt),
      same 6 (lit< tt),
      same 7 (lit< tt),
      same 8 (lit< tt),
      same 9 (lit< tt),
      same 10 (lit< tt),
    ) refl in e

-- after all fields they are the headers that become the same
pub same_all : (one two : Rewrite) (part : List Interval) (h : Header) → IsValidHeader h → length part ≡ 11 → SameUpTo one two part 11
    → IsTrue (in_cell part h) ↔ (rewritten one h ≡ rewritten two h)
same_all one two part h valid long same = (
  λ inside. one_header (rewritten one h) (rewritten two h) ((same h valid).0 (all_fields part h long ∙ inside)),
  λ is. sym (all_fields part h long) ∙ (same h valid).1 (λ k below. ap (λ (g : Header). get_or (fields g) k 0) is),
)

-- ---- what the sets make of a cell

-- so far a header of the cell is in the box of the fields so far after the sets
pub made_more : (sets : Rewrite) (cell made : List Interval) (h : Header) (at : ℕ) (old new : Interval) → slice_get cell at ≡ Some old → at < 11 → length made ≡ 11
    → in_cell cell h ≡ true → each_within (take at made) (fields (rewritten sets h)) ≡ true
    → ((x : ℕ) → within old x ≡ true → within new (unwrap_or (get_or (numbers sets) at None) x) ≡ true) → each_within (take (suc at) (set made at new)) (fields (rewritten sets h)) ≡ true
made_more sets cell made h at old new here fits long inside so_far is =
    each_within-put made (fields (rewritten sets h)) at new (omega arith) (field_fits (rewritten sets h) at fits)
    ∙ and_from _ _ so_far (ap (within new) (rewritten_at sets h at fits) ∙ is (get_or (fields h) at 0) (inside_at cell (fields h) at old here (field_fits h at fits) inside))
