-- Actions that are read from their own bytes alone.
use Rattle.std.proofs.Common.{◌≡◌, ◌<◌, ◌≤◌, ◌%◌, ◌==◌, ◌∙◌, ℕ, zero, suc, Bool, true, false, List, [], ◌∷◌, length, take, drop, map, slice_index, None, if◌then◌else◌, refl, sym, ap, ap₂, arith, length-drop, subst}
use Rattle.std.proofs.lemmas.Bool.{eqb-true}
use Rattle.std.proofs.lemmas.List.{get_or-take, length-take-le}
use Rattle.std.proofs.lemmas.List.Elements.{All-cons, All-head, All-nil, All-tail}
use Rattle.std.specs.Prelude.{All}
use Rattle.byteorder.specs.Endian.{big_from}
use Rattle.byteorder.specs.Numbers.{big_from-take}
use Rattle.of10_messages.specs.Reading.{action_of, action_of_kind, actions_of}
use Rattle.of10_messages.specs.Refusal.{IsGoodAction, action_starts, first_bad, fixed_length, told_length}
use Rattle.of10_messages.specs.Wire.{action_kind}
use Rattle.of10_messages.specs.declared.action.Action.{Action}
use Rattle.of10_messages.specs.declared.action.Action.TheVariants as action
use Rattle.of10_view.specs.Parts.{action_part, action_parts}

-- two choices by one test
both : (test : Bool) (a b x y : Action) → (test ≡ true → a ≡ b) → x ≡ y → (if test then a else x) ≡ (if test then b else y)
both true a b x y here there = here refl
both false a b x y here there = there

take_twice : (n : ℕ) (bytes : List ℕ) → take n (take n bytes) ≡ take n bytes
take_twice zero bytes = refl
take_twice (suc n) [] = refl
take_twice (suc n) (b ∷ bytes) = ap (λ (rest : List ℕ). b ∷ rest) (take_twice n bytes)

-- no field lies past the length of its action
of_kind : (kind n : ℕ) (bytes : List ℕ) → told_length bytes ≡ n → 8 ≤ n → (kind ≤ 11 → n ≡ fixed_length kind) → action_of_kind kind (take n bytes) ≡ action_of_kind kind bytes
of_kind kind n bytes told least fixed =
    let byte : slice_index (take n bytes) 4 ≡ slice_index bytes 4 = get_or-take n bytes 4 0 (omega arith) in
    let two : big_from 4 2 (take n bytes) ≡ big_from 4 2 bytes = big_from-take 4 2 n bytes (omega arith) in
    let next : big_from 6 2 (take n bytes) ≡ big_from 6 2 bytes = big_from-take 6 2 n bytes (omega arith) in
    let four : big_from 4 4 (take n bytes) ≡ big_from 4 4 bytes = big_from-take 4 4 n bytes (omega arith) in
    let said : told_length (take n bytes) ≡ n = big_from-take 2 2 n bytes (omega arith) ∙ told in
    let long : (k : ℕ) → kind ≡ k → k ≤ 11 → n ≡ fixed_length k = λ k is low. fixed (omega arith) ∙ ap fixed_length is in
    let body : drop 4 (take (told_length (take n bytes)) (take n bytes)) ≡ drop 4 (take (told_length bytes) bytes) =
    ap (λ (k : ℕ). drop 4 (take k (take n bytes))) said ∙ ap (drop 4) (take_twice n bytes) ∙ ap (λ (k : ℕ). drop 4 (take k bytes)) (sym told) in
    both (kind == 0) _ _ _ _ (λ is. ap₂ action.Output two next)
    (both (kind == 1) _ _ _ _ (λ is. ap action.SetVlanVid two)
    (both (kind == 2) _ _ _ _ (λ is. ap action.SetVlanPcp byte)
    (both (kind == 3) _ _ _ _ (λ is. refl)
    (both (kind == 4) _ _ _ _ (λ is. let size = long 4 (eqb-true kind 4 is) (omega arith) in ap action.SetDlSrc (big_from-take 4 6 n bytes (omega arith)))
    (both (kind == 5) _ _ _ _ (λ is. let size = long 5 (eqb-true kind 5 is) (omega arith) in ap action.SetDlDst (big_from-take 4 6 n bytes (omega arith)))
    (both (kind == 6) _ _ _ _ (λ is. ap action.SetNwSrc four)
    (both (kind == 7) _ _ _ _ (λ is. ap action.SetNwDst four)
    (both (kind == 8) _ _ _ _ (λ is. ap action.SetNwTos byte)
    (both (kind == 9) _ _ _ _ (λ is. ap action.SetTpSrc two)
    (both (kind == 10) _ _ _ _ (λ is. ap action.SetTpDst two)
    (ap (action.Other kind) body)))))))))))

-- a good action is what its own bytes are read as
taken : (rest : List ℕ) → IsGoodAction rest → action_of rest ≡ action_of (take (told_length rest) rest)
unfolding action_of
taken rest good =
    let n = told_length rest in
    let kind : big_from 0 2 (take n rest) ≡ big_from 0 2 rest = big_from-take 0 2 n rest (omega (arith, good.least)) in
    sym (ap (λ (k : ℕ). action_of_kind k (take n rest)) kind ∙ of_kind (big_from 0 2 rest) n rest refl good.least good.fixed)

-- its own bytes alone are as good, of the same type, and all that they say
pub record IsTaken (rest : List ℕ) (n : ℕ) : Type 0 where
  pub good : IsGoodAction (take n rest)
  pub kind : big_from 0 2 (take n rest) ≡ big_from 0 2 rest
  pub told : told_length (take n rest) ≡ n

pub good_taken : (rest : List ℕ) (n : ℕ) → n ≡ told_length rest → IsGoodAction rest → IsTaken rest n
good_taken rest n is good =
    let kind : big_from 0 2 (take n rest) ≡ big_from 0 2 rest = big_from-take 0 2 n rest (omega (arith, good.least)) in
    let told : told_length (take n rest) ≡ n = big_from-take 2 2 n rest (omega (arith, good.least)) ∙ sym is in
    let size : length (take n rest) ≡ n = length-take-le n rest (omega (arith, good.room)) in
    let fixed : big_from 0 2 (take n rest) ≤ 11 → told_length (take n rest) ≡ fixed_length (big_from 0 2 (take n rest)) = λ low.
    told ∙ is ∙ good.fixed (subst (λ (k : ℕ). k ≤ 11) kind low) ∙ ap fixed_length (sym kind) in
    let padded : told_length (take n rest) % 8 ≡ 0 = ap (λ (k : ℕ). k % 8) (told ∙ is) ∙ good.padded in
    record {
      good = record { least = omega (arith, told, good.least); room = omega (arith, told, size); padded = padded; fixed = fixed };
      kind = kind;
      told = told;
    }

-- the law of of10_messages on actions that stand one after the other
pub record AreInOrder : Type 0 where
  pub first : (bytes : List ℕ) → 0 < length bytes → first_bad bytes ≡ None → IsGoodAction bytes
  pub starts : (bytes : List ℕ) → 0 < length bytes → first_bad bytes ≡ None
      → action_starts 0 bytes ≡ bytes ∷ action_starts 0 (drop (told_length bytes) bytes)
  pub others : (bytes : List ℕ) → 0 < length bytes → first_bad bytes ≡ None → first_bad (drop (told_length bytes) bytes) ≡ None

-- where none is bad, each is good
each_good : (n : ℕ) (bytes : List ℕ) → AreInOrder → length bytes ≤ n → first_bad bytes ≡ None → All IsGoodAction (action_starts 0 bytes)
unfolding action_starts
each_good n [] order most none = All-nil IsGoodAction
each_good zero (b ∷ bytes) order most none = absurd (omega arith)
each_good (suc n) (b ∷ bytes) order most none =
    let all = b ∷ bytes in
    let some : 0 < length all = omega arith in
    let good = order.first all some none in
    let left = drop (told_length all) all in
    let rest = each_good n left order (omega (arith, length-drop (told_length all) all, good.least)) (order.others all some none) in
    subst (All IsGoodAction) (sym (order.starts all some none)) (All-cons IsGoodAction all (action_starts 0 left) good rest)

each_taken : (starts : List (List ℕ)) → All IsGoodAction starts → map action_of starts ≡ map (λ (part : ℕ × List ℕ). action_of part.1) (map action_part starts)
each_taken [] good = refl
each_taken (rest ∷ starts) good =
    ap₂ ◌∷◌ (taken rest (All-head IsGoodAction rest starts good)) (each_taken starts (All-tail IsGoodAction rest starts good))

-- the actions of some bytes are what their parts are read as
pub actions_taken : (bytes : List ℕ) → AreInOrder → first_bad bytes ≡ None → actions_of bytes ≡ map (λ (part : ℕ × List ℕ). action_of part.1) (action_parts bytes)
actions_taken bytes order none = each_taken (action_starts 0 bytes) (each_good (length bytes) bytes order (omega arith) none)

-- ---- types

-- a choice of actions of one type
one_kind : (test : Bool) (kind : ℕ) (a b : Action) → (test ≡ true → action_kind a ≡ kind) → action_kind b ≡ kind → action_kind (if test then a else b) ≡ kind
one_kind true kind a b here there = here refl
one_kind false kind a b here there = there

of_its_kind : (kind : ℕ) (bytes : List ℕ) → action_kind (action_of_kind kind bytes) ≡ kind
of_its_kind kind bytes =
    let at : (k : ℕ) → (kind == k) ≡ true → k ≡ kind = λ k is. sym (eqb-true kind k is) in
    one_kind (kind == 0) kind _ _ (at 0) (one_kind (kind == 1) kind _ _ (at 1) (one_kind (kind == 2) kind _ _ (at 2) (one_kind (kind == 3) kind _ _ (at 3)
    (one_kind (kind == 4) kind _ _ (at 4) (one_kind (kind == 5) kind _ _ (at 5) (one_kind (kind == 6) kind _ _ (at 6) (one_kind (kind == 7) kind _ _ (at 7)
    (one_kind (kind == 8) kind _ _ (at 8) (one_kind (kind == 9) kind _ _ (at 9) (one_kind (kind == 10) kind _ _ (at 10) refl))))))))))

each_kind : (starts : List (List ℕ)) → map action_kind (map action_of starts) ≡ map (λ (part : ℕ × List ℕ). part.0) (map action_part starts)
unfolding action_of
each_kind [] = refl
each_kind (rest ∷ starts) = ap₂ ◌∷◌ (of_its_kind (big_from 0 2 rest) rest) (each_kind starts)

-- the types of actions are those of their parts
pub actions_kinds : (bytes : List ℕ) → map action_kind (actions_of bytes) ≡ map (λ (part : ℕ × List ℕ). part.0) (action_parts bytes)
actions_kinds bytes = each_kind (action_starts 0 bytes)
