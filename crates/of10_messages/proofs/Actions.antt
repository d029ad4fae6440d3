-- Actions that stand one after the other: where each starts, and what holds of those that are not bad.
use Rattle.std.proofs.Common.{◌≡◌, ◌+◌, ◌-◌, ◌<◌, ◌%◌, ◌==◌, ◌∙◌, ℕ, zero, suc, Bool, true, false, not, List, [], ◌∷◌, length, drop, map, Some, None, nat_le, refl, ap, arith, inl, inr}
use Rattle.std.proofs.lemmas.Bool.{and_cases, eqb-true, leb-false, ltb-false, not-false, or_parts}
use Rattle.std.proofs.lemmas.List.{drop-drop}
use Rattle.byteorder.specs.Endian.{big_from}
use Rattle.of10_messages.specs.Reading.{action_of, actions_of}
use Rattle.of10_messages.specs.Refusal.{IsGoodAction, action_starts, first_bad, fixed_length, is_bad_action, told_length}

-- what is left of an earlier action is dropped
skipped : (n : ℕ) (bytes : List ℕ) → action_starts n bytes ≡ action_starts 0 (drop n bytes)
unfolding action_starts
skipped zero [] = refl
skipped (suc n) [] = refl
skipped zero (b ∷ bytes) = refl
skipped (suc n) (b ∷ bytes) = skipped n bytes

-- the first action stands at the start, and the others after its length
pub first_start : (bytes : List ℕ) → 0 < length bytes → 0 < told_length bytes → action_starts 0 bytes ≡ bytes ∷ action_starts 0 (drop (told_length bytes) bytes)
unfolding action_starts
first_start [] some told = absurd (omega arith)
first_start (b ∷ bytes) some told =
    let n = told_length (b ∷ bytes) - 1 in
    let one : suc n ≡ told_length (b ∷ bytes) = omega arith in
    ap (λ (starts : List (List ℕ)). (b ∷ bytes) ∷ starts) (skipped n bytes ∙ ap (λ (k : ℕ). action_starts 0 (drop k (b ∷ bytes))) one)

-- where the first action is bad, it is the first bad one
pub here_bad : (bytes : List ℕ) → 0 < length bytes → is_bad_action bytes ≡ true → first_bad bytes ≡ Some bytes
unfolding action_starts
here_bad [] some bad = absurd (omega arith)
here_bad (b ∷ bytes) some bad = rw bad refl

-- where none is bad, the first one is not
pub none_bad : (bytes : List ℕ) → 0 < length bytes → first_bad bytes ≡ None → is_bad_action bytes ≡ false
none_bad bytes some none = chosen (is_bad_action bytes) refl where
  chosen : (bad : Bool) → is_bad_action bytes ≡ bad → is_bad_action bytes ≡ false
  chosen true test = let found = here_bad bytes some test in cc
  chosen false test = test

-- where the first action is not bad, the first bad one is that of the others
pub later_bad : (bytes : List ℕ) (at : ℕ) → at < length bytes → is_bad_action (drop at bytes) ≡ false → 0 < told_length (drop at bytes) → 0 < length (drop at bytes)
    → first_bad (drop (at + told_length (drop at bytes)) bytes) ≡ first_bad (drop at bytes)
later_bad bytes at within good told some =
    let rest = drop at bytes in
    let moved = drop-drop (told_length rest) at bytes in
    rw (first_start rest some told, good, moved) refl

-- the actions are the first one and the others
pub first_action : (bytes : List ℕ) (at : ℕ) → 0 < told_length (drop at bytes) → 0 < length (drop at bytes)
    → actions_of (drop at bytes) ≡ action_of (drop at bytes) ∷ actions_of (drop (at + told_length (drop at bytes)) bytes)
first_action bytes at told some =
    let rest = drop at bytes in
    let moved = drop-drop (told_length rest) at bytes in
    rw (← moved) (ap (map action_of) (first_start rest some told))

-- what holds of an action that is not bad
pub good_action : (bytes : List ℕ) → is_bad_action bytes ≡ false → IsGoodAction bytes
unfolding is_bad_action
good_action bytes good =
    let told = told_length bytes in
    let kind = big_from 0 2 bytes in
    let one = or_parts _ _ good in
    let two = or_parts _ _ one.1 in
    let three = or_parts _ _ two.1 in
    let four = or_parts _ _ three.1 in
    record {
      least = ltb-false told 8 two.0;
      room = ltb-false (length bytes) told four.0;
      padded = eqb-true (told % 8) 0 (not-false (told % 8 == 0) three.0);
      fixed = λ known. elim (and_cases (nat_le kind 11) (not (told == fixed_length kind)) four.1) [
        | inl above ↦ absurd (omega (arith, leb-false kind 11 above))
        | inr same ↦ eqb-true told (fixed_length kind) (not-false (told == fixed_length kind) same)
      ];
    }
