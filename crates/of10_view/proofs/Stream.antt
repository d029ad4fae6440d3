-- What comes next of the bytes of a stream, and how a stream is cut into messages.
use Rattle.std.proofs.Common.{◌≡◌, ◌+◌, ◌<◌, ◌≤◌, ◌==◌, ℕ, Bool, true, false, not, List, [], ◌∷◌, ◌++◌, length, take, drop, slice_index, Option, Some, None, if◌then◌else◌, nat_lt, All, refl, sym, ap, ◌∙◌, arith, le-ltb, append_assoc, append-nil}
use Rattle.std.proofs.lemmas.Bool.{ltb-false}
use Rattle.std.proofs.lemmas.List.{append_cancel_left, get_or_append_left, length-append, length-take-le, take-append-drop, take-append-le}
use Rattle.std.proofs.lemmas.List.Elements.{All-head, All-push, All-tail}
use Rattle.std.proofs.lemmas.List.Folds.{concat-append}
use Rattle.std.proofs.Math.Seq.{take-length}
use Rattle.std.specs.List.{concat}
use Rattle.byteorder.specs.Endian.{big_from}
use Rattle.of10_messages.specs.Refusal.{IsAccepted, refusal_of}
use Rattle.of10_messages.specs.declared.bad.BadMessage.{BadMessage}
use Rattle.of10_messages.specs.declared.bad.BadMessage.TheVariants.{Length, Version}
use Rattle.of10_view.specs.Stream.{Ask, Broken, Call, Coming, Feed, IsCut, IsDrained, NotYet, Whole, fed, held_after, left_after, left_of, message_in, next_of, taken, whole_or_broken}

-- ---- more bytes

-- the first of two answers is not taken where it is another
not_first : (test : Bool) (one two answer : Coming) → (one ≡ answer → ⊥) → (if test then one else two) ≡ answer → test ≡ false
not_first true one two answer differs is = absurd (differs is)
not_first false one two answer differs is = refl

-- An answer of four tests stays where the last test that held may fail later, unless that test gave the answer. The
-- first test failed.
last_fails : (version least room room' : Bool) (one two three three' whole whole' answer : Coming)
    → (three ≡ answer → ⊥) → (room ≡ false → (room' ≡ false) × (whole' ≡ whole))
    → (if version then one else if least then two else if room then three else whole) ≡ answer
    → (if version then one else if least then two else if room' then three' else whole') ≡ answer
last_fails true least room room' one two three three' whole whole' answer differs same is = is
last_fails false true room room' one two three three' whole whole' answer differs same is = is
last_fails false false true room' one two three three' whole whole' answer differs same is = absurd (differs is)
last_fails false false false room' one two three three' whole whole' answer differs same is =
    let both = same refl in rw both.0 (both.1 ∙ is)

-- what comes next, by the number of bytes held, the version and the length in the header, and what the message is
abbrev by_header : ℕ → ℕ → ℕ → Coming → Coming
by_header len version told whole =
    if nat_lt len 8 then NotYet 8 len
    else if not (version == 1) then Broken (Version version)
    else if nat_lt told 8 then Broken (Length told 8)
    else if nat_lt len told then NotYet told len
    else whole

-- an answer that waits for no bytes needs a header
has_header : (len version told : ℕ) (whole answer : Coming) → ((need have : ℕ) → NotYet need have ≡ answer → ⊥)
    → by_header len version told whole ≡ answer → 8 ≤ len
has_header len version told whole answer settled is = ltb-false len 8 (not_first (nat_lt len 8) _ _ answer (settled 8 len) is)

-- an answer that waits for no bytes stays where more are held
by_header_stays : (len len' version told : ℕ) (whole whole' answer : Coming) → ((need have : ℕ) → NotYet need have ≡ answer → ⊥)
    → len ≤ len' → (told ≤ len → whole' ≡ whole)
    → by_header len version told whole ≡ answer → by_header len' version told whole' ≡ answer
by_header_stays len len' version told whole whole' answer settled longer same is =
    let there : 8 ≤ len = has_header len version told whole answer settled is in
    let header : nat_lt len 8 ≡ false = le-ltb len 8 there in
    let header' : nat_lt len' 8 ≡ false = le-ltb len' 8 (omega arith) in
    let rest = rw header at is in
    rw header' (last_fails (not (version == 1)) (nat_lt told 8) (nat_lt len told) (nat_lt len' told) _ _ (NotYet told len) (NotYet told len') whole whole' answer
    (settled told len) (λ room. let enough : told ≤ len = ltb-false len told room in (le-ltb len' told (omega arith), same enough)) rest)

-- a byte stays where more bytes follow
byte_stays : (held more : List ℕ) (i : ℕ) → i < length held → slice_index (held ++ more) i ≡ slice_index held i
byte_stays held more i inside = get_or_append_left held more 0 i inside

-- the length in a header stays too
told_stays : (held more : List ℕ) → 4 ≤ length held → big_from 2 2 (held ++ more) ≡ big_from 2 2 held
told_stays held more there =
    let high = byte_stays held more 2 (omega arith) in let low = byte_stays held more 3 (omega arith) in rw (high, low)

-- what comes next, in these words
next_by_header : (held : List ℕ)
    → next_of held ≡ by_header (length held) (slice_index held 0) (big_from 2 2 held) (whole_or_broken (take (big_from 2 2 held) held))
unfolding next_of
next_by_header held = refl

-- an answer that waits for no bytes stays, whatever follows
pub answer_stays : (held more : List ℕ) (answer : Coming) → ((need have : ℕ) → NotYet need have ≡ answer → ⊥)
    → next_of held ≡ answer → next_of (held ++ more) ≡ answer
answer_stays held more answer settled is =
    let as_told = sym (next_by_header held) ∙ is in
    let there : 8 ≤ length held =
    has_header (length held) (slice_index held 0) (big_from 2 2 held) (whole_or_broken (take (big_from 2 2 held) held)) answer settled as_told in
    let longer : length (held ++ more) ≡ length held + length more = length-append held more in
    let told = told_stays held more (omega arith) in
    let whole : big_from 2 2 held ≤ length held
    → whole_or_broken (take (big_from 2 2 held) (held ++ more)) ≡ whole_or_broken (take (big_from 2 2 held) held) =
    λ room. ap whole_or_broken (take-append-le (big_from 2 2 held) held more room) in
    let stays = by_header_stays (length held) (length (held ++ more)) (slice_index held 0) (big_from 2 2 held) _ _ answer settled (omega arith) whole as_told in
    next_by_header (held ++ more) ∙ rw (byte_stays held more 0 (omega arith), told) stays

-- ---- a whole message

-- the last of five answers is taken where no other is it
last_of : (short version least room : Bool) (one two three four whole answer : Coming)
    → (one ≡ answer → ⊥) → (two ≡ answer → ⊥) → (three ≡ answer → ⊥) → (four ≡ answer → ⊥)
    → (if short then one else if version then two else if least then three else if room then four else whole) ≡ answer
    → (room ≡ false) × (whole ≡ answer)
last_of true version least room one two three four whole answer a b c d is = absurd (a is)
last_of false true least room one two three four whole answer a b c d is = absurd (b is)
last_of false false true room one two three four whole answer a b c d is = absurd (c is)
last_of false false false true one two three four whole answer a b c d is = absurd (d is)
last_of false false false false one two three four whole answer a b c d is = (refl, is)

-- bytes that are a whole message are not refused, and they are the message
whole_read : (message m : List ℕ) → whole_or_broken message ≡ Whole m → (refusal_of message ≡ None) × (message ≡ m)
whole_read message m is = chosen (refusal_of message) refl where
  chosen : (o : Option BadMessage) → refusal_of message ≡ o → (refusal_of message ≡ None) × (message ≡ m)
  chosen None test = let whole = rw test at is in (test, cc whole)
  chosen (Some bad) test = absurd (let broken = rw test at is in cc broken)

-- a message that comes next is read, and begins what is held
comes_next : (held m : List ℕ) → next_of held ≡ Whole m → (refusal_of m ≡ None) × (held ≡ m ++ drop (length m) held)
comes_next held m is =
    let told : ℕ = big_from 2 2 held in
    let last = last_of (nat_lt (length held) 8) (not (slice_index held 0 == 1)) (nat_lt told 8) (nat_lt (length held) told)
    (NotYet 8 (length held)) (Broken (Version (slice_index held 0))) (Broken (Length told 8)) (NotYet told (length held))
    (whole_or_broken (take told held)) (Whole m) (λ e. cc) (λ e. cc) (λ e. cc) (λ e. cc) (sym (next_by_header held) ∙ is) in
    let both = whole_read (take told held) m last.1 in
    let enough : told ≤ length held = ltb-false (length held) told last.0 in
    let len : length m ≡ told = sym (ap length both.1) ∙ length-take-le told held enough in
    (rw both.1 at both.0, rw (len, ← both.1) (sym (take-append-drop told held)))

-- what is not refused is accepted, a law of of10_messages
abbrev AreAccepted : Type 0
AreAccepted = (bytes : List ℕ) → refusal_of bytes ≡ None → IsAccepted bytes

-- what follows it is what is left
pub begins : (held m : List ℕ) → next_of held ≡ Whole m → (refusal_of m ≡ None) × (held ≡ m ++ left_of held)
begins held m is = rw is (comes_next held m is)

-- and this is shorter than what was held
pub shorter : AreAccepted → (held m : List ℕ) → next_of held ≡ Whole m → length (left_of held) < length held
shorter parts held m is =
    let both = begins held m is in let fine = parts m both.0 in
    let len : length held ≡ length m + length (left_of held) = ap length both.1 ∙ length-append m (left_of held) in
    let header : 8 ≤ length m = fine.header in
    omega arith

-- a message comes next of its own bytes
comes_alone : (m : List ℕ) → refusal_of m ≡ None → IsAccepted m → next_of m ≡ Whole m
comes_alone m none fine =
    let header : nat_lt (length m) 8 ≡ false = le-ltb (length m) 8 fine.header in
    let room : nat_lt (length m) (length m) ≡ false = le-ltb (length m) (length m) (omega arith) in
    next_by_header m ∙ rw (fine.version, fine.told, header, room, take-length m, none)

-- and of its bytes before others
pub comes_before : AreAccepted → (m more : List ℕ) → refusal_of m ≡ None → next_of (m ++ more) ≡ Whole m
comes_before parts m more none = answer_stays m more (Whole m) (λ need have e. cc) (comes_alone m none (parts m none))

-- ---- streams

abbrev IsRead : List ℕ → Type 0
IsRead m = refusal_of m ≡ None

abbrev AllRead : List (List ℕ) → Type 0
AllRead = All IsRead

-- a message more, or at the head of what follows
joined : (messages : List (List ℕ)) (m rest : List ℕ) → concat (messages ++ m ∷ []) ++ rest ≡ concat messages ++ (m ++ rest)
joined messages m rest = rw (concat-append messages (m ∷ [])) (simp (append_assoc, append-nil))

-- where the next message is asked for, the message of the answer is taken from what is held
asked : (stream : List ℕ) (messages : List (List ℕ)) (held : List ℕ) → IsCut stream messages held
    → IsCut stream (messages ++ message_in (next_of held)) (left_of held)
asked stream messages held cut = chosen (next_of held) refl where
  chosen : (answer : Coming) → next_of held ≡ answer → IsCut stream (messages ++ message_in answer) (left_after answer held)
  chosen (Whole m) is =
      let next = comes_next held m is in
      record {
        whole = cut.whole ∙ ap (λ (rest : List ℕ). concat messages ++ rest) next.1 ∙ sym (joined messages m (drop (length m) held));
        each = All-push IsRead messages m cut.each next.0;
      }
  chosen (NotYet need have) is = rw (append-nil messages) cut
  chosen (Broken bad) is = rw (append-nil messages) cut

-- a stream is what was taken and what is held, and stays so after calls
pub kept_by_calls : (calls : List Call) (stream : List ℕ) (messages : List (List ℕ)) (held : List ℕ) → IsCut stream messages held
    → IsCut (stream ++ fed calls) (messages ++ taken held calls) (held_after held calls)
kept_by_calls [] stream messages held cut = rw (append-nil stream, append-nil messages) cut
kept_by_calls (Feed piece ∷ calls) stream messages held cut =
    let more : IsCut (stream ++ piece) messages (held ++ piece) = record {
      whole = ap (λ (bytes : List ℕ). bytes ++ piece) cut.whole ∙ append_assoc (concat messages) held piece;
      each = cut.each;
    } in
    rw (← append_assoc stream piece (fed calls)) (kept_by_calls calls (stream ++ piece) messages (held ++ piece) more)
kept_by_calls (Ask ∷ calls) stream messages held cut =
    rw (← append_assoc messages (message_in (next_of held)) (taken (left_of held) calls))
    (kept_by_calls calls stream (messages ++ message_in (next_of held)) (left_of held) (asked stream messages held cut))

-- more messages, and what was held is these and then what is kept
pub record Follows (messages others : List (List ℕ)) (held kept : List ℕ) : Type 0 where
  pub rest : List (List ℕ)
  pub read : AllRead rest
  pub later : others ≡ messages ++ rest
  pub held_is : held ≡ concat rest ++ kept

-- messages one after the other are found again
found_again : AreAccepted → (messages others : List (List ℕ)) (held kept : List ℕ) → AllRead messages → AllRead others
    → concat messages ++ held ≡ concat others ++ kept → IsDrained kept → Follows messages others held kept
found_again parts [] others held kept each each' is drained = record { rest = others; read = each'; later = refl; held_is = is }
found_again parts (m ∷ messages) [] held kept each each' is drained =
    absurd (drained m (concat messages ++ held) (All-head IsRead m messages each) (sym is ∙ append_assoc m (concat messages) held))
found_again parts (m ∷ messages) (o ∷ others) held kept each each' is drained =
    let flat : m ++ (concat messages ++ held) ≡ o ++ (concat others ++ kept) =
    sym (append_assoc m (concat messages) held) ∙ is ∙ append_assoc o (concat others) kept in
    let one = comes_before parts m (concat messages ++ held) (All-head IsRead m messages each) in
    let other = comes_before parts o (concat others ++ kept) (All-head IsRead o others each') in
    let first : m ≡ o = let both : Whole m ≡ Whole o = sym one ∙ ap next_of flat ∙ other in cc both in
    let after : m ++ (concat messages ++ held) ≡ m ++ (concat others ++ kept) = rw (← first) at flat in
    let more = found_again parts messages others held kept (All-tail IsRead m messages each) (All-tail IsRead o others each') (append_cancel_left m _ _ after) drained in
    record { rest = more.rest; read = more.read; later = cc (first, more.later); held_is = more.held_is }

-- messages taken from the beginning of a stream, and from a stream from which none is left to take
pub cut_later : AreAccepted → (stream more : List ℕ) (messages others : List (List ℕ)) (held kept : List ℕ) → IsCut stream messages held
    → IsCut (stream ++ more) others kept → IsDrained kept → Follows messages others (held ++ more) kept
cut_later parts stream more messages others held kept cut cut' drained =
    found_again parts messages others (held ++ more) kept cut.each cut'.each
    (sym (append_assoc (concat messages) held more) ∙ ap (λ (bytes : List ℕ). bytes ++ more) (sym cut.whole) ∙ cut'.whole) drained

-- a stream that is cut twice into messages and a rest from which none can be taken
pub cut_once : AreAccepted → (stream : List ℕ) (messages others : List (List ℕ)) (held kept : List ℕ) → IsCut stream messages held
    → IsCut stream others kept → IsDrained held → IsDrained kept → (messages ≡ others) × (held ≡ kept)
cut_once parts stream messages others held kept cut cut' drained drained' =
    let follows = found_again parts messages others held kept cut.each cut'.each (sym cut.whole ∙ cut'.whole) drained' in
    ends follows.rest follows.read follows.later follows.held_is where
      ends : (rest : List (List ℕ)) → AllRead rest → others ≡ messages ++ rest → held ≡ concat rest ++ kept → (messages ≡ others) × (held ≡ kept)
      ends [] read later held_is = (sym (later ∙ append-nil messages), held_is)
      ends (m ∷ rest) read later held_is =
          absurd (drained m (concat rest ++ kept) (All-head IsRead m rest read) (held_is ∙ append_assoc m (concat rest) kept))
