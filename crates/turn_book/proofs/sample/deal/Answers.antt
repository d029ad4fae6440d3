use Rattle.std.proofs.Common.{◌+◌, ℕ, List, length, ap, ◌∙◌, arith}
use Rattle.turn_book.specs.Places.{times, last_alone, but_last, last_alone-numbers_from, but_last-numbers_from}
use Rattle.turn_book.proofs.Sums.{length-numbers_from, times_here}
use Rattle.turn_book.proofs.sample.deal.Goals as goal

pub split-requires-clause-two : goal.split-requires-clause-two
split-requires-clause-two c = omega (arith, ap length c.requires.marks, length-numbers_from 0 (c.args.mark + 1))

pub invariant_of-result : goal.invariant_of-result
invariant_of-result c =
    let given = ap (λ v. v.marks) c.in-Ok.ensures.second.1.1 ∙ (ap last_alone c.requires.marks ∙ last_alone-numbers_from c.args.mark) in
    let once = ap (λ (l : List ℕ). times c.args.mark l) given ∙ times_here c.args.mark in record { has = omega arith }

pub returns-clause-marks : goal.returns-clause-marks
returns-clause-marks c = ap (λ v. v.marks) c.in-Ok.ensures.first.1 ∙ (ap but_last c.requires.marks ∙ but_last-numbers_from c.args.mark)
