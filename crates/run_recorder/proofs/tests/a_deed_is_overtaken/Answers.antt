use Rattle.std.proofs.Common.{◌≡◌, ℕ, ◌<◌, List, length, slice_get, Some, ap, sym, ◌∙◌, arith}
use Rattle.std.specs.List.{remove}
use Rattle.std.proofs.lemmas.List.Edits.{get_or-remove_below}
use Rattle.std.proofs.lemmas.Option.{get_or_from_slice_get, slice_get-get_or, slice_get_within}
use Rattle.run_recorder.proofs.tests.a_deed_is_overtaken.Goals as goal

-- what stands before a place stands there once that place is removed
before_removed : {X : Type 0} (xs : List X) (at k : ℕ) (x : X) → k < at → at < length xs → slice_get (remove xs at) k ≡ Some x → slice_get xs k ≡ Some x
before_removed xs at k x before within there =
    slice_get-get_or xs k x (omega arith) ∙ ap Some (sym (get_or-remove_below xs at x k before within) ∙ get_or_from_slice_get (remove xs at) k x x there)

pub go_on-requires : goal.go_on-requires
go_on-requires g c =
    let within = slice_get_within c.in_ok-recorder.parts 2 c.remove-second.result c.remove-second.ensures.item in
    let there = ap (λ parts. slice_get parts 1) (sym c.remove-second.ensures.rest) ∙ c.remove-first.ensures.item in
    (c.in_ok-recorder.ensures.parts.each 1 c.remove-first.result (before_removed c.in_ok-recorder.parts 2 1 c.remove-first.result (omega arith) within there)).0

pub offered-requires-after_bounds : goal.offered-requires-after_bounds
offered-requires-after_bounds g c κs = (c.in_ok-recorder.ensures.parts.each 2 c.remove-second.result c.remove-second.ensures.item).0
