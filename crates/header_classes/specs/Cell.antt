-- Cells: an interval for each field of a header.
use Rattle.std.specs.Prelude.{◌≡◌, ◌&&◌, ℕ, Bool, true, false, List, [], ◌∷◌, Option, Some, None, cond, map}
use Rattle.std.specs.List.{AllZip, count_by}
use Rattle.of10_match.specs.declared.header.Header.{Header}
use Rattle.header_classes.specs.declared.interval.Interval.{Interval}
use Rattle.header_classes.specs.Interval.{IsInterval, within}

-- the eleven fields of a header, in their order
unfoldable pub fields : Header → List ℕ
fields h = h.dl_src ∷ h.dl_dst ∷ h.dl_vlan ∷ h.dl_vlan_pcp ∷ h.dl_type ∷ h.nw_tos ∷ h.nw_proto ∷ h.nw_src ∷ h.nw_dst ∷ h.tp_src ∷ h.tp_dst ∷ []

-- how many bits each of them has (OpenFlow 1.0.0 section 5.2.3, the field types of ofp_match)
unfoldable pub widths : List ℕ
widths = 48 ∷ 48 ∷ 16 ∷ 8 ∷ 16 ∷ 8 ∷ 8 ∷ 32 ∷ 32 ∷ 16 ∷ 16 ∷ []

-- a cell is an interval for each field, of numbers of the field's width
abbrev pub IsCell : List Interval → Type 0
IsCell cell = AllZip IsInterval widths cell

-- each number is within the interval at its place
abbrev pub each_within : List Interval → List ℕ → Bool
each_within [] xs = true
each_within (i ∷ is) [] = true
each_within (i ∷ is) (x ∷ xs) = within i x && each_within is xs

-- a header is in a cell where each of its fields is within the interval of that field
abbrev pub in_cell : List Interval → Header → Bool
in_cell cell h = each_within cell (fields h)

-- there is a cell, and the header is in it
abbrev pub in_some : Option (List Interval) → Header → Bool
in_some None h = false
in_some (Some cell) h = in_cell cell h

-- in how many cells of a list a header is
abbrev pub times : List (List Interval) → Header → ℕ
times cells h = count_by (λ cell. in_cell cell h) cells

-- Cells part a set of headers: each header of the set is in exactly one of them, and no other header is in any.
abbrev pub IsPartition : (Header → Bool) → List (List Interval) → Type 0
IsPartition set cells = (h : Header) → times cells h ≡ cond (set h) 1 0

-- the cells of classes
abbrev pub cells_of : List (List Interval × Option ℕ) → List (List Interval)
cells_of classes = map (λ class. class.0) classes
