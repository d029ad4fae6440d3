-- The first of some actions, and the others.
use Rattle.std.proofs.Common.{◌≡◌, ◌+◌, ◌<◌, ◌∙◌, ℕ, List, length, drop, None, arith, subst}
use Rattle.of10_messages.proofs.Actions.{first_start, good_action, later_bad, none_bad}
use Rattle.of10_messages.specs.Refusal.{IsGoodAction, first_bad, told_length}
use Rattle.of10_messages.proofs.laws.actions_stand_one_after_the_other.Goals as goal

first : (bytes : List ℕ) → 0 < length bytes → first_bad bytes ≡ None → IsGoodAction bytes
first bytes some none = good_action bytes (none_bad bytes some none)

others : (bytes : List ℕ) → 0 < length bytes → first_bad bytes ≡ None → first_bad (drop (told_length bytes) bytes) ≡ None
others bytes some none =
    let good = first bytes some none in
    let later : first_bad (drop (0 + told_length bytes) bytes) ≡ first_bad bytes = later_bad bytes 0 some (none_bad bytes some none) (omega (arith, good.least)) some in
    let place : 0 + told_length bytes ≡ told_length bytes = omega arith in
    subst (λ (k : ℕ). first_bad (drop k bytes) ≡ None) place (later ∙ none)

pub returns-clause-first : goal.returns-clause-first
returns-clause-first c = first

pub returns-clause-starts : goal.returns-clause-starts
returns-clause-starts c = λ bytes some none. let good = first bytes some none in first_start bytes some (omega (arith, good.least))

pub returns-clause-others : goal.returns-clause-others
returns-clause-others c = others
