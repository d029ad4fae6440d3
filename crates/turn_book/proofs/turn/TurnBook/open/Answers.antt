use Rattle.std.proofs.Common.{◌++◌, ◌∷◌, [], ap, sym, ◌∙◌, arith, Some, length}
use Rattle.std.specs.List.{concat}
use Rattle.turn_book.proofs.Keeps.{begins_as}
use Rattle.turn_book.proofs.Sums.{length-numbers_from}
use Rattle.turn_book.proofs.turn.TurnBook.open.Goals as goal

pub new-requires : goal.new-requires
new-requires g c = begins_as _ _ _ c.args.book _ _ _ c.of-key.ensures c.entries-seen.ensures (c.in_default.ensures.items ∙ ap (λ l. l ++ Some c.args.book ∷ []) c.new-slots.ensures.items)

pub invariant_of-result-in-Ok : goal.invariant_of-result-in-Ok
invariant_of-result-in-Ok g c =
    let me = c.in-Ok.ensures.ok.4 in
    let all = length-numbers_from 0 64 in
    let marks = ap (λ m. length m.0.marks) me in record {
      free = ap (λ m. m.0.holds) me;
      empty = ap (λ m. length m.1) me;
      some_mark = omega arith;
      shares_is = omega arith;
      seen_is = c.entries-seen.ensures ∙ ap (λ b. length (g.B.Book.history b)) (sym c.of-key.ensures) ∙ sym (ap (λ m. length m.0.seen) me);
      own_is = sym (ap (λ m. length (concat m.0.own)) me);
    }
