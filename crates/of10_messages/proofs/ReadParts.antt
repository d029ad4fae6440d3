-- The actions and ports that are read are valid, and the encodings of actions are as long as what they are read from.
use Rattle.std.proofs.Common.{◌≡◌, ◌+◌, ◌-◌, ◌*◌, ◌^◌, ◌<◌, ◌≤◌, ◌==◌, ◌∙◌, ℕ, zero, suc, false, List, [], ◌∷◌, length, map, take, drop, slice_index, None, refl, sym, ap, arith, inl, inr, subst, length-append, length-drop}
use Rattle.std.proofs.Math.Dec.{lit≤, lit<}
use Rattle.std.proofs.lemmas.Bool.{cases_lt, ne_eqb}
use Rattle.std.proofs.lemmas.List.{get_or-drop, get_or_default, length-take}
use Rattle.std.proofs.lemmas.List.Elements.{All-nil, All-cons}
use Rattle.std.specs.Prelude.{All}
use Rattle.byteorder.specs.Endian.{big_from}
use Rattle.byteorder.specs.Numbers.{big_from-lt}
use Rattle.of10_messages.proofs.Actions.{first_start, good_action, later_bad, none_bad}
use Rattle.of10_messages.specs.TypeCases.{up_to_10}
use Rattle.of10_messages.specs.Reading.{action_of, action_of_kind, actions_of, port_of, ports_of}
use Rattle.of10_messages.specs.Refusal.{IsGoodAction, action_starts, first_bad, fixed_length, told_length}
use Rattle.of10_messages.specs.Valid.{AreBytes, IsOtherAction, IsValidAction, IsValidPort}
use Rattle.of10_messages.specs.Wire.{action_bytes, actions_bytes}
use Rattle.of10_messages.specs.declared.action.Action.{Action}
use Rattle.of10_messages.specs.declared.action.Action.TheVariants as action

-- each place has a byte
pub record Holds (bytes : List ℕ) : Type 0 where
  pub each : (i : ℕ) → slice_index bytes i < 256

-- so has each part of them
pub held_drop : (n : ℕ) (bytes : List ℕ) → Holds bytes → Holds (drop n bytes)
held_drop n bytes h = record { each = λ i. rw (get_or-drop n bytes i 0) (h.each (n + i)) }

held_cons : (b : ℕ) (bytes : List ℕ) → b < 256 → Holds bytes → Holds (b ∷ bytes)
held_cons b bytes fits h = record { each = each } where
  each : (i : ℕ) → slice_index (b ∷ bytes) i < 256
  each zero = fits
  each (suc i) = h.each i

pub held_take : (n : ℕ) (bytes : List ℕ) → Holds bytes → Holds (take n bytes)
held_take zero bytes h = record { each = λ i. lit< tt }
held_take (suc n) [] h = h
held_take (suc n) (b ∷ bytes) h = held_cons b (take n bytes) (h.each zero) (held_take n bytes (record { each = λ i. h.each (suc i) }))

pub are_bytes : (bytes : List ℕ) → Holds bytes → AreBytes bytes
are_bytes bytes h i d within = rw (get_or_default bytes i d 0 within) (h.each i)

-- ---- actions

-- an action that is valid and as long as it says
record Fine (a : Action) (told : ℕ) : Type 0 where
  valid : IsValidAction a
  size : length (action_bytes a) ≡ told

-- an action of a type above those with fields of their own keeps its body
pub other_kind : (kind : ℕ) (bytes : List ℕ) → 10 < kind → action_of_kind kind bytes ≡ action.Other kind (drop 4 (take (told_length bytes) bytes))
other_kind kind bytes high =
    let ne : (j : ℕ) → j ≤ 10 → (kind == j) ≡ false = λ j low. ne_eqb kind j (λ same. omega arith) in
    rw (ne 0 (lit≤ tt), ne 1 (lit≤ tt), ne 2 (lit≤ tt), ne 3 (lit≤ tt), ne 4 (lit≤ tt), ne 5 (lit≤ tt), ne 6 (lit≤ tt), ne 7 (lit≤ tt), ne 8 (lit≤ tt), ne 9 (lit≤ tt), ne 10 (lit≤ tt)) refl

-- by cases on the type
fine_action : (bytes : List ℕ) → Holds bytes → IsGoodAction bytes → Fine (action_of bytes) (told_length bytes)
unfolding action_of action_bytes
fine_action bytes h good =
    let told = told_length bytes in
    let kind = big_from 0 2 bytes in
    let two : (i : ℕ) → big_from i 2 bytes < 2 ^ 16 = λ i. big_from-lt i 2 bytes h.each in
    let four : (i : ℕ) → big_from i 4 bytes < 2 ^ 32 = λ i. big_from-lt i 4 bytes h.each in
    let six : (i : ℕ) → big_from i 6 bytes < 2 ^ 48 = λ i. big_from-lt i 6 bytes h.each in
    let said : (k : ℕ) → kind ≡ k → k ≤ 11 → told ≡ fixed_length k = λ k same low. good.fixed (omega arith) ∙ ap fixed_length same in
    elim (cases_lt kind 11) [
      | inl low ↦ up_to_10 (λ k. kind ≡ k → Fine (action_of_kind k bytes) told)
          (λ e. record { valid = (two 4, two 6); size = sym (said 0 e (lit≤ tt)) })
          (λ e. record { valid = two 4; size = sym (said 1 e (lit≤ tt)) })
          (λ e. record { valid = h.each 4; size = sym (said 2 e (lit≤ tt)) })
          (λ e. record { valid = tt; size = sym (said 3 e (lit≤ tt)) })
          (λ e. record { valid = six 4; size = sym (said 4 e (lit≤ tt)) })
          (λ e. record { valid = six 4; size = sym (said 5 e (lit≤ tt)) })
          (λ e. record { valid = four 4; size = sym (said 6 e (lit≤ tt)) })
          (λ e. record { valid = four 4; size = sym (said 7 e (lit≤ tt)) })
          (λ e. record { valid = h.each 4; size = sym (said 8 e (lit≤ tt)) })
          (λ e. record { valid = two 4; size = sym (said 9 e (lit≤ tt)) })
          (λ e. record { valid = two 4; size = sym (said 10 e (lit≤ tt)) })
          kind (omega arith) refl
      | inr high ↦
          let body = drop 4 (take told bytes) in
          let size : length body ≡ told - 4 = simp (length-drop, length-take) (omega (arith, good.room)) in
          let enqueued : kind ≡ 11 → told ≡ 16 = λ e. said 11 e (lit≤ tt) in
          let valid : IsOtherAction kind body = record {
            fits = two 0;
            other = omega arith;
            bytes = are_bytes body (held_drop 4 (take told bytes) (held_take told bytes h));
            padded = omega (arith, size, good.padded, good.least);
            enqueue = λ e. omega (arith, size, enqueued e);
          } in
          subst (λ (a : Action). Fine a told) (sym (other_kind kind bytes (omega arith))) (record { valid = valid; size = omega (arith, size, good.least) })
    ]

-- actions none of which is bad are valid, and as long as the bytes
pub record FineActions (bytes : List ℕ) : Type 0 where
  pub valid : All IsValidAction (actions_of bytes)
  pub size : length (actions_bytes (actions_of bytes)) ≡ length bytes

-- by induction on a bound of the length
fine_within : (n : ℕ) (bytes : List ℕ) → length bytes ≤ n → Holds bytes → first_bad bytes ≡ None → FineActions bytes
unfolding action_starts
fine_within n [] most h none = record { valid = All-nil IsValidAction; size = refl }
fine_within zero (b ∷ bytes) most h none = absurd (omega arith)
fine_within (suc n) (b ∷ bytes) most h none =
    let all = b ∷ bytes in
    let told = told_length all in
    let some : 0 < length all = omega arith in
    let not_bad = none_bad all some none in
    let good = good_action all not_bad in
    let place : told ≡ 0 + told = omega arith in
    let later : first_bad (drop told all) ≡ None =
    ap (λ (n : ℕ). first_bad (drop n all)) place ∙ later_bad all 0 some not_bad (omega (arith, good.least)) some ∙ none in
    let rest = fine_within n (drop told all) (simp length-drop (omega (arith, good.least))) (held_drop told all h) later in
    let first = fine_action all h good in
    let parts : actions_of all ≡ action_of all ∷ actions_of (drop told all) = ap (map action_of) (first_start all some (omega (arith, good.least))) in
    let sized : length (actions_bytes (action_of all ∷ actions_of (drop told all))) ≡ length all =
    simp length-append (omega (arith, first.size, rest.size, length-drop told all, good.room)) in
    record {
      valid = subst (All IsValidAction) (sym parts) (All-cons IsValidAction (action_of all) (actions_of (drop told all)) first.valid rest.valid);
      size = ap (λ (actions : List Action). length (actions_bytes actions)) parts ∙ sized;
    }

pub fine_actions : (bytes : List ℕ) → Holds bytes → first_bad bytes ≡ None → FineActions bytes
fine_actions bytes h none = fine_within (length bytes) bytes (omega arith) h none

-- ---- ports

-- what is read of 48 bytes is a valid port
pub port_valid : (bytes : List ℕ) → Holds bytes → 48 ≤ length bytes → IsValidPort (port_of bytes)
unfolding port_of
port_valid bytes h room =
    let four : (i : ℕ) → big_from i 4 bytes < 2 ^ 32 = λ i. big_from-lt i 4 bytes h.each in
    record {
      port_no = big_from-lt 0 2 bytes h.each;
      hw_addr = big_from-lt 2 6 bytes h.each;
      name_length = simp (length-take, length-drop) (omega arith);
      name = are_bytes (take 16 (drop 8 bytes)) (held_take 16 (drop 8 bytes) (held_drop 8 bytes h));
      config = four 24;
      state = four 28;
      curr = four 32;
      advertised = four 36;
      supported = four 40;
      peer = four 44;
    }

pub ports_valid : (n : ℕ) (bytes : List ℕ) → Holds bytes → 48 * n ≤ length bytes → All IsValidPort (ports_of n bytes)
ports_valid zero bytes h room = All-nil IsValidPort
ports_valid (suc n) bytes h room =
    All-cons IsValidPort (port_of bytes) (ports_of n (drop 48 bytes)) (port_valid bytes h (omega arith))
    (ports_valid n (drop 48 bytes) (held_drop 48 bytes h) (simp length-drop (omega arith)))

-- so many ports are read
pub ports_count : (n : ℕ) (bytes : List ℕ) → length (ports_of n bytes) ≡ n
ports_count zero bytes = refl
ports_count (suc n) bytes = ap suc (ports_count n (drop 48 bytes))
