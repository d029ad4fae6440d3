-- One entry more takes its part of what is left, and at the end no entry takes what is left.
use Rattle.std.proofs.Common.{◌≡◌, ◌∙◌, ℕ, List, length, get_or, slice_get, Some, None, sym, ap, subst, arith}
use Rattle.std.proofs.lemmas.List.{get_or_default}
use Rattle.std.proofs.lemmas.Option.{slice_get-get_or}
use Rattle.std.specs.declared.cmp.Reverse.{Reverse}
use Rattle.of10_match.specs.Match.{takes}
use Rattle.header_classes.specs.Cell.{times}
use Rattle.flow_table.specs.Entry.{IsTable}
use Rattle.flow_table.specs.declared.entry.Entry.{Entry}
use Rattle.header_classes.specs.Order.{IsOrder}
use Rattle.header_classes.proofs.Classes.{Misses, best_added, first_best, misses_more, none_best, place_within, rest_some, taken_and_rest, taken_some, times-added}
use Rattle.header_classes.proofs.partition.classes.Goals as goal

pub cut_each-requires : goal.cut_each-requires
cut_each-requires c =
    let entries = c.entries-entries.result.now in
    let order = c.deref-place-items.result.now in
    let n = c.loop-place.place-index in
    let d : Reverse ℕ × ℕ = (record { 0 = 0 }, 0) in
    let is : IsOrder entries order = subst (IsOrder entries) (sym c.deref-place-items.ensures.value) c.in_ok-order.ensures in
    let table : IsTable entries = subst IsTable (sym c.entries-entries.ensures.entries) c.entries-entries.ensures.table in
    (table.valid (get_or order n d).1 c.index-entries-place.result (place_within entries order n d is c.loop-place-test.true)).matches

pub loop-place-preserved : goal.loop-place-preserved
loop-place-preserved c =
    let entries = c.args.table.now in
    let order = c.deref-place-items.result.now in
    let port = c.args.in_port in
    let n = c.loop-place.place-index in
    let d : Reverse ℕ × ℕ = (record { 0 = 0 }, 0) in
    let place = (get_or order n d).1 in
    let e = get_or c.entries-entries.result.now place c.index-entries-place.result in
    let left = c.loop-place.left in
    let parts = c.in_ok-parts.parts in
    let is : IsOrder entries order =
    subst (λ (es : List Entry). IsOrder es order) c.entries-entries.ensures.entries (subst (IsOrder c.entries-entries.result.now) (sym c.deref-place-items.ensures.value) c.in_ok-order.ensures) in
    let here : slice_get entries place ≡ Some e =
    subst (λ (es : List Entry). slice_get entries place ≡ Some (get_or es place c.index-entries-place.result)) (sym c.entries-entries.ensures.entries)
    (slice_get-get_or entries place c.index-entries-place.result (place_within entries order n d is c.loop-place-test.true)) in
    record {
      whole = λ h.
          let so_far = c.loop-place.invariant.whole h in
          let added = times-added c.loop-place.classes parts.taken (Some place) h in
          let taken = c.in_ok-parts.ensures.taken h in
          let rest = c.in_ok-parts.ensures.rest h in
          let both = taken_and_rest (takes e.matches port h) (times left h) in
          rw c.in_ok-label.ensures (omega (arith, so_far, added, taken, rest, both));
      best = rw c.in_ok-label.ensures (best_added entries port c.loop-place.classes parts.taken (Some place) c.loop-place.invariant.best (λ h some.
          let was = taken_some (takes e.matches port h) (times left h) (times parts.taken h) (c.in_ok-parts.ensures.taken h) some in
          first_best entries order port h is c.tests_mean_what_matches_take.ensures.takes n e d (λ p x. c.the_best_entry_is_unbeaten.ensures.only entries port h p x)
          c.loop-place-test.true (c.loop-place.invariant.missed h was.1) here was.0));
      missed = λ h some.
          let was = rest_some (takes e.matches port h) (times left h) (times parts.rest h) (c.in_ok-parts.ensures.rest h) some in
          misses_more entries port h order n e
          (λ other. ap (λ (r : Reverse ℕ × ℕ). slice_get entries r.1) (get_or_default order n other d c.loop-place-test.true) ∙ here)
          was.0 (c.loop-place.invariant.missed h was.1);
    }

pub returns-clause-best : goal.returns-clause-best
returns-clause-best c =
    let entries = c.args.table.now in
    let order = c.deref-place-items.result.now in
    let port = c.args.in_port in
    let is : IsOrder entries order =
    subst (λ (es : List Entry). IsOrder es order) c.entries-entries.ensures.entries (subst (IsOrder c.entries-entries.result.now) (sym c.deref-place-items.ensures.value) c.in_ok-order.ensures) in
    let at_end : c.loop-place.place-index ≡ length order = omega arith in
    rw c.in_ok-label-2.ensures (best_added entries port c.loop-place.classes c.loop-place.left None c.loop-place.invariant.best (λ h some.
    none_best entries order port h is c.tests_mean_what_matches_take.ensures.takes (λ p. c.the_best_entry_is_unbeaten.ensures.best entries port h p)
    (subst (Misses entries port h order) at_end (c.loop-place.invariant.missed h some))))
