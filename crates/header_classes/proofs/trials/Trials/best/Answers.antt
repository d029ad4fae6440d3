-- The first entry that takes the headers left is the best one of each of them.
use Rattle.std.proofs.Common.{◌≡◌, ◌∙◌, ◌<◌, ℕ, IsTrue, Some, length, refl, slice_get, subst, sym, unwrap_or, arith}
use Rattle.std.proofs.lemmas.Option.{slice_get_read}
use Rattle.header_classes.specs.Cell.{fields, in_cell}
use Rattle.header_classes.proofs.Boxes.{inner_chain, inner_part}
use Rattle.header_classes.proofs.Firsts.{AreMissed, before_first, first_tried, missed_more, none_tried}
use Rattle.header_classes.proofs.trials.Trials.best.Goals as goal

pub returns-then-takes-clause-inner : goal.returns-then-takes-clause-inner
returns-then-takes-clause-inner c =
    inner_chain c.args.cell.now c.begin_with_first-first.new.cell c.takes.new.cell c.begin_with_first-first.ensures.inner
    (inner_chain c.begin_with_first-first.new.cell c.loop-at.cell c.takes.new.cell c.loop-at.invariant.inner c.takes.ensures.inner)

pub returns-then-takes-clause-best : goal.returns-then-takes-clause-best
returns-then-takes-clause-best c = λ entries h are inside.
    let items = c.args.self.now.trials.items in
    let n = c.loop-at.at in
    let long : c.args.self.now.trials.len ≡ length items = omega (arith, c.args.self.now.trials.ok.0) in
    let before : n < unwrap_or c.begin_with_first-first.result c.args.self.now.trials.len = rw (c.unwrap_or-until.ensures, c.len.ensures) at c.loop-at-test.true in
    let within : n < length items = before_first c.begin_with_first-first.result (length items) n c.begin_with_first-first.ensures.within
    (subst (λ (m : ℕ). n < unwrap_or c.begin_with_first-first.result m) long before) in
    let outer : IsTrue (in_cell c.loop-at.cell h) = inner_part c.loop-at.cell c.takes.new.cell (fields h) c.takes.ensures.inner inside in
    let valid = c.every_cell.ensures.valid h (inner_part c.begin_with_first-first.new.cell c.loop-at.cell (fields h) c.loop-at.invariant.inner outer) in
    first_tried entries c.args.self.now c.args.in_port h are valid c.tests_mean_what_matches_take.ensures.takes n c.index-trial.result.now
    (λ place entry. c.the_best_entry_is_unbeaten.ensures.only entries c.args.in_port h place entry) within c.index-trial.ensures (c.loop-at.invariant.missed h outer)
    (c.if-takes.ensures.settled h inside)

pub loop-at-preserved : goal.loop-at-preserved
loop-at-preserved c =
    let items = c.args.self.now.trials.items in
    let n = c.loop-at.at in
    let long : c.args.self.now.trials.len ≡ length items = omega (arith, c.args.self.now.trials.ok.0) in
    let before : n < unwrap_or c.begin_with_first-first.result c.args.self.now.trials.len = rw (c.unwrap_or-until.ensures, c.len.ensures) at c.loop-at-test.true in
    let within : n < length items = before_first c.begin_with_first-first.result (length items) n c.begin_with_first-first.ensures.within
    (subst (λ (m : ℕ). n < unwrap_or c.begin_with_first-first.result m) long before) in
    record {
      inside = c.takes.ensures.inside;
      inner = inner_chain c.begin_with_first-first.new.cell c.loop-at.cell c.takes.new.cell c.loop-at.invariant.inner c.takes.ensures.inner;
      missed = λ h inside.
          let outer : IsTrue (in_cell c.loop-at.cell h) = inner_part c.loop-at.cell c.takes.new.cell (fields h) c.takes.ensures.inner inside in
          missed_more c.args.in_port h items n c.index-trial.result.now within c.index-trial.ensures (c.if-takes.ensures.settled h inside) (c.loop-at.invariant.missed h outer);
    }

pub returns-in_err-first-clause-inner : goal.returns-in_err-first-clause-inner
returns-in_err-first-clause-inner c =
    inner_chain c.args.cell.now c.begin_with_first-first.new.cell c.loop-at.cell c.begin_with_first-first.ensures.inner c.loop-at.invariant.inner

pub returns-in_err-first-clause-best : goal.returns-in_err-first-clause-best
returns-in_err-first-clause-best c = λ entries h are inside.
    let until : c.unwrap_or-until.result ≡ c.args.self.now.trials.len = rw (c.in_err-first.was, c.len.ensures) at c.unwrap_or-until.ensures in
    let at_end : c.loop-at.at ≡ c.unwrap_or-until.result = omega arith in
    let all : length c.args.self.now.trials.items ≡ c.loop-at.at = omega (arith, until, at_end, c.args.self.now.trials.ok.0) in
    let valid = c.every_cell.ensures.valid h (inner_part c.begin_with_first-first.new.cell c.loop-at.cell (fields h) c.loop-at.invariant.inner inside) in
    none_tried entries c.args.self.now c.args.in_port h are valid c.tests_mean_what_matches_take.ensures.takes c.loop-at.at
    (λ place. c.the_best_entry_is_unbeaten.ensures.best entries c.args.in_port h place) all (c.loop-at.invariant.missed h inside) ∙ sym c.from_residual.ensures

pub returns-clause-inner : goal.returns-clause-inner
returns-clause-inner c =
    inner_chain c.args.cell.now c.begin_with_first-first.new.cell c.loop-at.cell c.begin_with_first-first.ensures.inner c.loop-at.invariant.inner

pub returns-clause-best : goal.returns-clause-best
returns-clause-best c = λ entries h are inside.
    let items = c.args.self.now.trials.items in
    let first = c.in_ok-first.first in
    let trial = c.index.result.now in
    let within : first < length items = c.in_ok-first.ensures.within in
    let until : c.unwrap_or-until.result ≡ first = rw c.in_ok-first.was at c.unwrap_or-until.ensures in
    let at_end : c.loop-at.at ≡ c.unwrap_or-until.result = omega arith in
    let outer = inner_part c.begin_with_first-first.new.cell c.loop-at.cell (fields h) c.loop-at.invariant.inner inside in
    let valid = c.every_cell.ensures.valid h outer in
    let there : slice_get items first ≡ Some trial = slice_get_read items (length items) first trial refl within c.index.ensures in
    let missed : AreMissed c.args.in_port h items first = subst (λ (k : ℕ). AreMissed c.args.in_port h items k) (at_end ∙ until) (c.loop-at.invariant.missed h inside) in
    first_tried entries c.args.self.now c.args.in_port h are valid c.tests_mean_what_matches_take.ensures.takes first trial
    (λ place entry. c.the_best_entry_is_unbeaten.ensures.only entries c.args.in_port h place entry) within c.index.ensures missed
    (c.in_ok-first.ensures.taken trial h there outer)
