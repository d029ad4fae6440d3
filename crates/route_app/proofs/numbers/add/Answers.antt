-- A switch is put at its place.
use Rattle.std.proofs.Common.{ℕ, List, Contains, Err, nat_cmp, subst, sym}
use Rattle.std.specs.List.Sorted.{IsBinarySearchResult}
use Rattle.route_app.specs.Table.{Ascends}
use Rattle.route_app.proofs.Places.{ascends_inserted, belongs, inserted_kept}
use Rattle.route_app.proofs.numbers.add.Goals as goal

pub returns-in_ok-insert-in-Err-clause-ascending : goal.returns-in_ok-insert-in-Err-clause-ascending
returns-in_ok-insert-in-Err-clause-ascending c =
    let xs = c.args.switches.now.items in
    let position = subst (λ (ys : List ℕ). IsBinarySearchResult (λ y. nat_cmp y c.args.s) ys (Err c.in-Err.at)) c.deref.ensures.value c.in-Err.ensures.position in
    subst Ascends (sym c.in_ok-insert-in-Err.ensures.items) (ascends_inserted xs c.args.s c.in-Err.at c.requires (belongs xs c.args.s c.in-Err.at c.requires position))

pub returns-in_ok-insert-in-Err-clause-kept : goal.returns-in_ok-insert-in-Err-clause-kept
returns-in_ok-insert-in-Err-clause-kept c = λ t there. subst (λ (ys : List ℕ). Contains ys t) (sym c.in_ok-insert-in-Err.ensures.items) (inserted_kept c.args.switches.now.items c.args.s c.in-Err.at t there)
