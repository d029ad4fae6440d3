-- No reason of a refusal is a want of memory.
use Rattle.std.proofs.Common.{◌≡◌, ◌≢◌, ◌==◌, ℕ, Bool, true, false, not, List, length, drop, slice_index, Option, Some, None, if◌then◌else◌, nat_lt, refl}
use Rattle.byteorder.specs.Endian.{big_from}
use Rattle.of10_messages.specs.Refusal.{bad_action, first_bad, has_body, out_actions, refusal_of}
use Rattle.of10_messages.specs.declared.bad.BadMessage.{BadMessage}
use Rattle.of10_messages.specs.declared.bad.BadMessage.TheVariants.{BodyLength, Kind, Length, OutOfMemory, Short, Version}
use Rattle.of10_messages.proofs.laws.no_refusal_is_want_of_memory.Goals as goal

-- the one reason that speaks of memory
is_memory : BadMessage → Bool
is_memory OutOfMemory = true
is_memory _ = false

-- where the reason of a test is another, what is left is refused for memory
rest_of : (test : Bool) (bad : BadMessage) (rest : Option BadMessage) → (if test then Some bad else rest) ≡ Some OutOfMemory → is_memory bad ≡ false
    → rest ≡ Some OutOfMemory
unfolding is_memory
rest_of true OutOfMemory rest is other = absurd (cc)
rest_of true _ rest is other = absurd (cc)
rest_of false bad rest is other = is

-- no bad action is refused for memory
of_action : (place : ℕ) (bytes : List ℕ) → bad_action place bytes ≢ Some OutOfMemory
of_action place bytes = chosen (first_bad bytes) refl where
  chosen : (o : Option (List ℕ)) → first_bad bytes ≡ o → bad_action place bytes ≢ Some OutOfMemory
  chosen None test = λ is. let both = rw test at is in cc both
  chosen (Some rest) test = λ is. let both = rw test at is in cc both

-- neither of two refusals is, nor none
neither : (test : Bool) (one other : Option BadMessage) → one ≢ Some OutOfMemory → other ≢ Some OutOfMemory → (if test then one else other) ≢ Some OutOfMemory
neither true one other here there = here
neither false one other here there = there

none : None ≢ Some OutOfMemory
none = λ is. cc

of_bytes : (bytes : List ℕ) → refusal_of bytes ≢ Some OutOfMemory
unfolding refusal_of is_memory
of_bytes bytes = λ is.
    let one = rest_of (nat_lt (length bytes) 8) Short _ is refl in
    let two = rest_of (not (slice_index bytes 0 == 1)) (Version (slice_index bytes 0)) _ one refl in
    let three = rest_of (not (big_from 2 2 bytes == length bytes)) (Length (big_from 2 2 bytes) (length bytes)) _ two refl in
    let four = rest_of (nat_lt 21 (slice_index bytes 1)) (Kind (slice_index bytes 1)) _ three refl in
    let five = rest_of (not (has_body bytes)) (BodyLength (slice_index bytes 1) (length bytes)) _ four refl in
    neither (slice_index bytes 1 == 13) _ _ (of_action 16 (out_actions bytes)) (neither (slice_index bytes 1 == 14) _ _ (of_action 72 (drop 72 bytes)) none) five

pub returns : goal.returns
returns c = of_bytes
