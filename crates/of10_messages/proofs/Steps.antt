-- The steps of the walks over actions that stand one after the other.
use Rattle.std.proofs.Common.{◌≡◌, ◌+◌, ◌-◌, ◌<◌, ◌≤◌, ◌∙◌, ℕ, true, false, List, [], ◌∷◌, ◌++◌, length, drop, Some, None, refl, sym, ap, subst, arith, append_assoc, append-nil, length-drop}
use Rattle.std.proofs.lemmas.List.{drop_all}
use Rattle.of10_messages.proofs.Actions.{first_action, good_action, here_bad, later_bad, none_bad}
use Rattle.of10_messages.specs.Reading.{action_of, actions_of}
use Rattle.of10_messages.specs.Refusal.{IsGoodAction, action_starts, bad_action, first_bad, is_bad_action, kind_at_start, told_length}
use Rattle.of10_messages.specs.declared.action.Action.{Action}
use Rattle.of10_messages.specs.declared.bad.BadMessage.TheVariants.{BadAction}

some_left : (bytes : List ℕ) (at : ℕ) → at < length bytes → 0 < length (drop at bytes)
some_left bytes at within = omega (arith, length-drop at bytes)

-- a place up to which no action is bad
pub record Onward (bytes : List ℕ) (at : ℕ) : Type 0 where
  pub within : at ≤ length bytes
  pub same : first_bad (drop at bytes) ≡ first_bad bytes

pub next_place : (bytes rest : List ℕ) (at told : ℕ) → rest ≡ drop at bytes → at < length bytes → is_bad_action rest ≡ false → told ≡ told_length rest
    → first_bad (drop at bytes) ≡ first_bad bytes → Onward bytes (at + told)
next_place bytes rest at told is within fine said same =
    let here : is_bad_action (drop at bytes) ≡ false = subst (λ (r : List ℕ). is_bad_action r ≡ false) is fine in
    let good = good_action (drop at bytes) here in
    let told_is : told_length (drop at bytes) ≡ told = sym (said ∙ ap told_length is) in
    let later = later_bad bytes at within here (omega (arith, good.least)) (some_left bytes at within) in
    subst (λ (n : ℕ). Onward bytes (at + n)) told_is (record {
      within = omega (arith, good.room, length-drop at bytes);
      same = later ∙ same;
    })

-- a bad action up to which none is bad is refused
pub found_bad : (place : ℕ) (bytes rest : List ℕ) (at kind : ℕ) → rest ≡ drop at bytes → at < length bytes → is_bad_action rest ≡ true → kind ≡ kind_at_start rest
    → first_bad (drop at bytes) ≡ first_bad bytes → Some (BadAction (place + at) kind) ≡ bad_action place bytes
found_bad place bytes rest at kind is within bad said same =
    let here : is_bad_action (drop at bytes) ≡ true = subst (λ (r : List ℕ). is_bad_action r ≡ true) is bad in
    let first : first_bad bytes ≡ Some (drop at bytes) = sym same ∙ here_bad (drop at bytes) (some_left bytes at within) here in
    let before : length bytes - length (drop at bytes) ≡ at = omega (arith, length-drop at bytes) in
    let kind_is : kind_at_start (drop at bytes) ≡ kind = sym (said ∙ ap kind_at_start is) in
    rw (first, before, kind_is) refl

-- at the end no action is bad
pub at_end : (place : ℕ) (bytes : List ℕ) (at : ℕ) → length bytes ≤ at → first_bad (drop at bytes) ≡ first_bad bytes → None ≡ bad_action place bytes
unfolding action_starts
at_end place bytes at past same =
    let nothing : first_bad (drop at bytes) ≡ None = ap first_bad (drop_all at bytes past) in
    let none : first_bad bytes ≡ None = sym same ∙ nothing in
    rw none refl

-- where none is bad, the first one is good
pub good_first : (bytes rest : List ℕ) (at : ℕ) → rest ≡ drop at bytes → at < length bytes → first_bad (drop at bytes) ≡ None → IsGoodAction rest
good_first bytes rest at is within none =
    subst IsGoodAction (sym is) (good_action (drop at bytes) (none_bad (drop at bytes) (some_left bytes at within) none))

-- actions that were read up to a place, and of which none that is left is bad
pub record Progress (bytes : List ℕ) (at : ℕ) (actions : List Action) : Type 0 where
  pub within : at ≤ length bytes
  pub good : first_bad (drop at bytes) ≡ None
  pub all : actions ++ actions_of (drop at bytes) ≡ actions_of bytes

pub next_read : (bytes rest : List ℕ) (at told : ℕ) (actions : List Action) (a : Action) → rest ≡ drop at bytes → at < length bytes → told ≡ told_length rest → a ≡ action_of rest
    → Progress bytes at actions → Progress bytes (at + told) (actions ++ a ∷ [])
next_read bytes rest at told actions a is within said read so_far =
    let some = some_left bytes at within in
    let here = none_bad (drop at bytes) some so_far.good in
    let good = good_action (drop at bytes) here in
    let told_is : told_length (drop at bytes) ≡ told = sym (said ∙ ap told_length is) in
    let a_is : action_of (drop at bytes) ≡ a = sym (read ∙ ap action_of is) in
    let later = later_bad bytes at within here (omega (arith, good.least)) some in
    let first = first_action bytes at (omega (arith, good.least)) some in
    let joined : (actions ++ action_of (drop at bytes) ∷ []) ++ actions_of (drop (at + told_length (drop at bytes)) bytes) ≡ actions_of bytes =
    append_assoc actions (action_of (drop at bytes) ∷ []) (actions_of (drop (at + told_length (drop at bytes)) bytes))
    ∙ ap (λ (xs : List Action). actions ++ xs) (sym first) ∙ so_far.all in
    let next : Progress bytes (at + told_length (drop at bytes)) (actions ++ action_of (drop at bytes) ∷ []) = record {
      within = omega (arith, good.room, length-drop at bytes);
      good = later ∙ so_far.good;
      all = joined;
    } in
    subst (λ (x : Action). Progress bytes (at + told) (actions ++ x ∷ [])) a_is
    (subst (λ (n : ℕ). Progress bytes (at + n) (actions ++ action_of (drop at bytes) ∷ [])) told_is next)

-- at the end all actions were read
pub all_read : (bytes : List ℕ) (at : ℕ) (actions : List Action) → length bytes ≤ at → Progress bytes at actions → actions ≡ actions_of bytes
unfolding action_starts
all_read bytes at actions past so_far =
    let nothing : actions_of (drop at bytes) ≡ [] = ap actions_of (drop_all at bytes past) in
    sym (append-nil actions) ∙ ap (λ (xs : List Action). actions ++ xs) (sym nothing) ∙ so_far.all
