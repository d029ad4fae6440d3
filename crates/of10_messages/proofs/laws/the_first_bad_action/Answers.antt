-- The first bad action.
use Rattle.std.proofs.Common.{◌≡◌, ◌+◌, ◌<◌, ◌∙◌, ℕ, List, length, drop, false, refl, sym, ap, arith}
use Rattle.of10_messages.proofs.Actions.{first_start, good_action, here_bad, later_bad}
use Rattle.of10_messages.proofs.RoundTripActions.{not_bad}
use Rattle.of10_messages.specs.Refusal.{action_starts, first_bad, is_bad_action, told_length}
use Rattle.of10_messages.proofs.laws.the_first_bad_action.Goals as goal

later : (bytes : List ℕ) → 0 < length bytes → is_bad_action bytes ≡ false → first_bad bytes ≡ first_bad (drop (told_length bytes) bytes)
later bytes some fine =
    let good = good_action bytes fine in
    let moved : first_bad (drop (0 + told_length bytes) bytes) ≡ first_bad bytes = later_bad bytes 0 some fine (omega (arith, good.least)) some in
    let place : 0 + told_length bytes ≡ told_length bytes = omega arith in
    sym moved ∙ ap (λ (k : ℕ). first_bad (drop k bytes)) place

pub returns-clause-good : goal.returns-clause-good
returns-clause-good c = good_action

pub returns-clause-bad : goal.returns-clause-bad
returns-clause-bad c = not_bad

pub returns-clause-starts : goal.returns-clause-starts
returns-clause-starts c = first_start

pub returns-clause-none : goal.returns-clause-none
unfolding action_starts
returns-clause-none c = refl

pub returns-clause-here : goal.returns-clause-here
returns-clause-here c = here_bad

pub returns-clause-later : goal.returns-clause-later
returns-clause-later c = later
