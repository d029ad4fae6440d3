-- What holds of bytes that are not refused.
use Rattle.std.proofs.Common.{◌≡◌, ◌<◌, ◌==◌, ℕ, Bool, true, false, List, [], ◌++◌, length, slice_index, Option, Some, None, if◌then◌else◌, refl, arith, length-append}
use Rattle.std.proofs.lemmas.List.{get_or_append_left, nil_from_length}
use Rattle.std.proofs.lemmas.Bool.{eqb-true, ltb-false, not-false}
use Rattle.byteorder.specs.Endian.{big_from}
use Rattle.of10_messages.specs.Refusal.{IsAccepted, bad_action, first_bad, has_body, refusal_of}

-- a test whose answer is not there did not hold
none_parts : {A : Type 0} (test : Bool) (x : A) (rest : Option A) → (if test then Some x else rest) ≡ None → (test ≡ false) × (rest ≡ None)
none_parts true x rest none = cc
none_parts false x rest none = (refl, none)

pub accepted : (bytes : List ℕ) → refusal_of bytes ≡ None → IsAccepted bytes
unfolding refusal_of
accepted bytes none =
    let one = none_parts _ _ _ none in
    let two = none_parts _ _ _ one.1 in
    let three = none_parts _ _ _ two.1 in
    let four = none_parts _ _ _ three.1 in
    let five = none_parts _ _ _ four.1 in
    record {
      header = ltb-false (length bytes) 8 one.0;
      version = eqb-true (slice_index bytes 0) 1 (not-false (slice_index bytes 0 == 1) two.0);
      told = eqb-true (big_from 2 2 bytes) (length bytes) (not-false (big_from 2 2 bytes == length bytes) three.0);
      kind = ltb-false 21 (slice_index bytes 1) four.0;
      body = not-false (has_body bytes) five.0;
      actions = five.1;
    }

-- no bad action is refused where none is bad
pub no_bad : (place : ℕ) (bytes : List ℕ) → bad_action place bytes ≡ None → first_bad bytes ≡ None
no_bad place bytes none = chosen (first_bad bytes) refl where
  chosen : (o : Option (List ℕ)) → first_bad bytes ≡ o → first_bad bytes ≡ None
  chosen None test = test
  chosen (Some rest) test = absurd (let both = rw test at none in cc both)

-- of bytes that are not refused, those that stand after others that are not refused are none
pub no_more : (bytes more : List ℕ) → refusal_of bytes ≡ None → refusal_of (bytes ++ more) ≡ None → more ≡ []
no_more bytes more one both =
    let a = accepted bytes one in
    let b = accepted (bytes ++ more) both in
    let place : (i : ℕ) → i < 8 → slice_index (bytes ++ more) i ≡ slice_index bytes i = λ i low. get_or_append_left bytes more 0 i (omega (arith, a.header)) in
    let same : big_from 2 2 (bytes ++ more) ≡ big_from 2 2 bytes = rw (place 2 (omega arith), place 3 (omega arith)) refl in
    nil_from_length more (omega (arith, a.told, b.told, same, length-append bytes more))
