-- A header that is counted once is in one cell alone.
use Rattle.std.proofs.Common.{◌≡◌, ℕ, List, [], ◌∷◌, ◌||◌, Option, refl, ◌∙◌, ◌≤◌, cond, true, false, Bool, ap, arith, get_or}
use Rattle.std.proofs.lemmas.Bool.{and_parts, false_from_ne_true}
use Rattle.std.specs.List.{list_any}
use Rattle.of10_match.specs.declared.header.Header.{Header}
use Rattle.header_classes.specs.declared.interval.Interval.{Interval}
use Rattle.header_classes.specs.Cell.{cells_of, in_cell}
use Rattle.header_classes.proofs.Counts.{any_counted, one_counted, two_counted}
use Rattle.header_classes.proofs.laws.partitions_are_disjoint_covers.Goals as goal

at_most_one : (b : Bool) → cond b 1 0 ≤ 1
at_most_one true = omega arith
at_most_one false = omega arith

pub returns-clause-disjoint : goal.returns-clause-disjoint
returns-clause-disjoint c = λ set cells parted i j d less within h. false_from_ne_true _ (λ both.
    let parts = and_parts (in_cell (get_or cells i d) h) (in_cell (get_or cells j d) h) both in
    let two = two_counted (λ cell. in_cell cell h) cells i j d less within parts.0 parts.1 in
    let one = parted h in
    let most = at_most_one (set h) in
    absurd (omega (arith, two, one, most)))

pub returns-clause-covers : goal.returns-clause-covers
returns-clause-covers c = λ set cells parted h. any_counted (λ cell. in_cell cell h) cells (set h) (parted h)

pub returns-clause-both : goal.returns-clause-both
returns-clause-both c = λ set cells alone covers h.
    one_counted (λ cell. in_cell cell h) cells (λ i j d less within. alone i j d less within h) ∙ ap (λ (b : Bool). cond b 1 0) (covers h)

any_class : (classes : List (List Interval × Option ℕ)) (h : Header) → list_any (λ class. in_cell class.0 h) classes ≡ list_any (λ cell. in_cell cell h) (cells_of classes)
any_class [] h = refl
any_class (class ∷ classes) h = ap (λ (b : Bool). in_cell class.0 h || b) (any_class classes h)

pub returns-clause-classes : goal.returns-clause-classes
returns-clause-classes c = λ set classes parted h. any_class classes h ∙ any_counted (λ cell. in_cell cell h) (cells_of classes) (set h) (parted h)
