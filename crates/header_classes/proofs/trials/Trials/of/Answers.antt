-- One entry more in the order has its trial.
use Rattle.std.proofs.Common.{◌≡◌, ℕ, List, get_or, slice_get, Some, sym, subst}
use Rattle.std.proofs.lemmas.List.Elements.{All-push}
use Rattle.std.proofs.lemmas.Option.{slice_get-get_or}
use Rattle.std.specs.declared.cmp.Reverse.{Reverse}
use Rattle.flow_table.specs.Entry.{IsTable}
use Rattle.flow_table.specs.declared.entry.Entry.{Entry}
use Rattle.header_classes.specs.Order.{IsOrder}
use Rattle.header_classes.specs.Trials.{IsTrialOf}
use Rattle.header_classes.proofs.Classes.{place_within}
use Rattle.header_classes.proofs.Firsts.{places_more}
use Rattle.header_classes.proofs.trials.Trials.of.Goals as goal

pub of-requires : goal.of-requires
of-requires c =
    let entries = c.entries-entries.result.now in
    let order = c.deref-place-items.result.now in
    let n = c.loop-place.place-index in
    let d : Reverse ℕ × ℕ = (record { 0 = 0 }, 0) in
    let is : IsOrder entries order = subst (IsOrder entries) (sym c.deref-place-items.ensures.value) c.in_ok-order.ensures in
    let table : IsTable entries = subst IsTable (sym c.entries-entries.ensures.entries) c.entries-entries.ensures.table in
    (table.valid (get_or order n d).1 c.index-entries-place.result (place_within entries order n d is c.loop-place-test.true)).matches

pub loop-place-preserved : goal.loop-place-preserved
loop-place-preserved c =
    let entries = c.args.table.now in
    let order = c.deref-place-items.result.now in
    let n = c.loop-place.place-index in
    let d : Reverse ℕ × ℕ = (record { 0 = 0 }, 0) in
    let place = (get_or order n d).1 in
    let e = get_or c.entries-entries.result.now place c.index-entries-place.result in
    let is : IsOrder entries order =
    subst (λ (es : List Entry). IsOrder es order) c.entries-entries.ensures.entries (subst (IsOrder c.entries-entries.result.now) (sym c.deref-place-items.ensures.value) c.in_ok-order.ensures) in
    let here : slice_get entries place ≡ Some e =
    subst (λ (es : List Entry). slice_get entries place ≡ Some (get_or es place c.index-entries-place.result)) (sym c.entries-entries.ensures.entries)
    (slice_get-get_or entries place c.index-entries-place.result (place_within entries order n d is c.loop-place-test.true)) in
    let trial : IsTrialOf entries c.of.result = record {
      entry = e;
      here = subst (λ (p : ℕ). slice_get entries p ≡ Some e) (sym c.of.ensures.place) here;
      takes = c.of.ensures.takes;
    } in
    rw c.in_ok-push.ensures.items record {
      places = places_more c.loop-place.trials.items c.of.result order n d c.loop-place-test.true c.of.ensures.place c.loop-place.invariant.places;
      each = All-push (IsTrialOf entries) c.loop-place.trials.items c.of.result c.loop-place.invariant.each trial;
    }
