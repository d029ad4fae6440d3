use Rattle.std.proofs.Common.{◌≡◌, ◌∙◌, ◌<◌, length, slice_get, Some, arith, refl, subst, sym}
use Rattle.std.proofs.lemmas.Option.{slice_get_read}
use Rattle.pool_book.proofs.Finding.{found_pool, found_within, pool_missing}
use Rattle.pool_book.proofs.pools.Pools.pool.Goals as goal

pub returns-in_err-number : goal.returns-in_err-number
returns-in_err-number c = let none = pool_missing c.args.name c.args.self.now c.in_err-number.ensures in rw (c.from_residual.ensures, none) refl

pub bounds-deref-number : goal.bounds-deref-number
bounds-deref-number c = subst (λ pools. c.in_ok-number.number < length pools) (sym (c.deref.ensures ∙ c.self.view_is)) (found_within c.args.name c.args.self.now c.in_ok-number.number c.in_ok-number.ensures)

pub offset_bounds-deref-number : goal.offset_bounds-deref-number
offset_bounds-deref-number c =
    let below = subst (λ pools. c.in_ok-number.number < length pools) (sym (c.deref.ensures ∙ c.self.view_is)) (found_within c.args.name c.args.self.now c.in_ok-number.number c.in_ok-number.ensures) in
    let small = c.deref.type_inv.1 in
    omega arith

pub returns : goal.returns
returns c =
    let e = c.deref.ensures ∙ c.self.view_is in
    let below = subst (λ pools. c.in_ok-number.number < length pools) (sym e) (found_within c.args.name c.args.self.now c.in_ok-number.number c.in_ok-number.ensures) in
    let here = slice_get_read c.deref.result.now (length c.deref.result.now) c.in_ok-number.number c.index-deref-number.result refl below c.index-deref-number.is in
    sym (found_pool c.args.name c.args.self.now c.in_ok-number.number c.index-deref-number.result c.in_ok-number.ensures (subst (λ pools. slice_get pools c.in_ok-number.number ≡ Some c.index-deref-number.result) e here))
