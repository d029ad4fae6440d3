-- Each header that is left is brought into the cell by the sets, as the header of the class is.
use Rattle.std.proofs.Common.{◌≡◌, ◌∙◌, true, sym}
use Rattle.header_classes.specs.Cell.{in_cell, in_some}
use Rattle.header_classes.specs.Rewrite.{rewritten}
use Rattle.invariant_check.proofs.class.Class.best.Goals as goal

pub returns-clause-every : goal.returns-clause-every
returns-clause-every c = λ entries h are inside.
    let sets = c.args.sets.now in
    let old = c.args.self.now in
    let new = c.settle.new.self in
    let after = c.best-best.new.cell in
    let there : in_cell after (rewritten sets old.header) ≡ true = rw c.apply.ensures.after at c.best-best.ensures.inside in
    let mine : in_some c.before-2.result old.header ≡ true = c.before-2.ensures old.header (c.a_cell_has_valid_headers.ensures.valid old.header old.inside) ∙ there in
    let kept : in_cell new.cell old.header ≡ true = rw c.settle.ensures.narrowed.header at new.inside in
    let all : c.settle.result ≡ true = sym (c.settle.ensures.settled old.header kept) ∙ mine in
    let brought : in_cell after (rewritten sets h) ≡ true = sym (c.before-2.ensures h (c.settle.ensures.valid h inside)) ∙ c.settle.ensures.settled h inside ∙ all in
    c.best-best.ensures.best entries (rewritten sets h) are brought
