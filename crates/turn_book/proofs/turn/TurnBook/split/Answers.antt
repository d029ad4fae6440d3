use Rattle.std.proofs.Common.{ap, sym, ◌∙◌, subst, arith, length, length-append}
use Rattle.std.specs.List.{concat}
use Rattle.turn_book.specs.Places.{but_last, last_alone}
use Rattle.turn_book.proofs.Keeps.{splits, notes}
use Rattle.turn_book.specs.History.{IsMarked}
use Rattle.turn_book.proofs.Seats.{parent_marked}
use Rattle.turn_book.proofs.Sums.{halves, length-last_alone}
use Rattle.turn_book.proofs.turn.TurnBook.split.Goals as goal

pub split_seat-other-requires : goal.split_seat-other-requires
split_seat-other-requires g c = (c.requires.of.0, omega arith, splits _ _ _ _ _ _ _ c.requires.of.1 c.args.seat.free c.requires.free c.requires.two)

pub load-requires : goal.load-requires
load-requires g c =
    let now = c.split_seat-other.ensures.4 in
    (c.split_seat-other.ensures.3 ∙ c.requires.of.0, omega arith, notes _ _ _ _ _ _ _ _ (ap (λ m. m.0.live) now ∙ c.requires.of.1) (ap (λ m. m.0.holds) now))

pub invariant_of-result : goal.invariant_of-result
invariant_of-result g c =
    let v = c.args.seat.token.me.0 in
    let now = c.split_seat-other.ensures.2 in
    let two = c.requires.two in
    let one = length-last_alone v.marks (omega arith) in
    let parts = ap length (sym (halves v.marks)) ∙ length-append (but_last v.marks) (last_alone v.marks) in
    let left = ap (λ m. length m.0.marks) now in
    let was = c.args.seat.shares_is in record {
      free = ap (λ m. m.0.holds) now ∙ c.args.seat.free;
      empty = ap (λ m. length m.1) now ∙ c.args.seat.empty;
      some_mark = omega arith;
      shares_is = omega arith;
      seen_is = c.args.seat.seen_is ∙ sym (ap (λ m. length m.0.seen) now);
      own_is = c.args.seat.own_is ∙ sym (ap (λ m. length (concat m.0.own)) now);
    }

pub invariant_of-result-2 : goal.invariant_of-result-2
invariant_of-result-2 g c =
    let v = c.args.seat.token.me.0 in
    let now = c.split_seat-other.ensures.4 in
    let then = c.load.ensures.2.0 in
    let two = c.requires.two in
    let one = length-last_alone v.marks (omega arith) in
    let left = ap (λ m. length m.0.marks) then ∙ ap (λ m. length m.0.marks) now in record {
      free = ap (λ m. m.0.holds) then ∙ ap (λ m. m.0.holds) now;
      empty = ap (λ m. length m.1) then ∙ ap (λ m. length m.1) now;
      some_mark = omega arith;
      shares_is = omega arith;
      seen_is = c.args.seat.seen_is ∙ sym (ap (λ m. length m.0.seen) then ∙ ap (λ m. length m.0.seen) now);
      own_is = sym (ap (λ m. length (concat m.0.own)) then ∙ ap (λ m. length (concat m.0.own)) now);
    }

pub returns-clause-first_marked : goal.returns-clause-first_marked
returns-clause-first_marked g c before = subst (λ v. IsMarked g.B.Book.mark v) (sym (ap (λ m. m.0) c.split_seat-other.ensures.2)) (parent_marked g.B.Book.mark c.args.seat.token.me.0 before c.requires.free)
