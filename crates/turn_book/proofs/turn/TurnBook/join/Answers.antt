use Rattle.std.proofs.Common.{ap, ◌∙◌, arith, length, length-append}
use Rattle.std.specs.List.{concat}
use Rattle.turn_book.proofs.Keeps.{joins, notes}
use Rattle.turn_book.proofs.Sums.{concat-append}
use Rattle.turn_book.proofs.Seats.{length-longer}
use Rattle.turn_book.proofs.Slots.{nil_of}
use Rattle.turn_book.proofs.turn.TurnBook.join.Goals as goal

pub join_seat-requires : goal.join_seat-requires
join_seat-requires g c = (c.requires.into.0, c.requires.other.0, nil_of _ c.args.other.empty, omega arith, joins _ _ _ _ _ _ _ _ _ c.requires.into.1 c.args.into.free c.requires.other.1 c.args.other.free)

pub load-requires : goal.load-requires
load-requires g c =
    let now = c.join_seat.ensures.2 in
    (c.join_seat.ensures.0 ∙ c.requires.into.0, omega arith, notes _ _ _ _ _ _ _ _ (ap (λ m. m.0.live) now ∙ c.requires.into.1) (ap (λ m. m.0.holds) now ∙ c.args.into.free))

pub overflow_add-result-2 : goal.overflow_add-result-2
overflow_add-result-2 g c =
    let v = c.args.into.token.me.0 in
    let w = c.args.other.token.me.0 in
    let sum = ap length (concat-append v.own w.own) ∙ length-append (concat v.own) (concat w.own) in
    let now = ap (λ m. length (concat m.0.own)) c.join_seat.ensures.2 in
    let room = c.load.ensures.2.1.room in
    let mine = c.args.into.own_is in
    let other = c.args.other.own_is in
    omega arith

pub invariant_of-result : goal.invariant_of-result
invariant_of-result g c =
    let v = c.args.into.token.me.0 in
    let w = c.args.other.token.me.0 in
    let now = c.join_seat.ensures.2 in
    let then = c.load.ensures.2.0 in
    let marks = length-append v.marks w.marks in
    let left = ap (λ m. length m.0.marks) then ∙ ap (λ m. length m.0.marks) now in
    let own = ap length (concat-append v.own w.own) ∙ length-append (concat v.own) (concat w.own) in
    let owned = ap (λ m. length (concat m.0.own)) then ∙ ap (λ m. length (concat m.0.own)) now in
    let long = length-longer v.seen w.seen in
    let seen = ap (λ m. length m.0.seen) then ∙ ap (λ m. length m.0.seen) now in
    let a = c.args.into.shares_is in
    let b = c.args.other.shares_is in
    let d = c.args.into.own_is in
    let e = c.args.other.own_is in record {
      free = ap (λ m. m.0.holds) then ∙ (ap (λ m. m.0.holds) now ∙ c.args.into.free);
      empty = ap (λ m. length m.1) then ∙ (ap (λ m. length m.1) now ∙ c.args.into.empty);
      some_mark = let some_one = c.args.into.some_mark in omega arith;
      shares_is = omega arith;
      seen_is = let m = c.max.ensures in let p = c.args.into.seen_is in let q = c.args.other.seen_is in omega arith;
      own_is = omega arith;
    }
