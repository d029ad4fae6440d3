-- Messages of a stream of bytes that comes in pieces.
use Rattle.std.specs.Prelude.{◌≡◌, ℕ, ◌==◌, not, List, [], ◌∷◌, ◌++◌, length, take, drop, slice_index, None, if◌then◌else◌, nat_lt, All}
use Rattle.std.specs.List.{concat}
use Rattle.std.specs.Option.{option_map_or}
use Rattle.byteorder.specs.Endian.{big_from}
use Rattle.of10_messages.specs.Refusal.{refusal_of}
use Rattle.of10_messages.specs.declared.bad.BadMessage.{BadMessage}
use Rattle.of10_messages.specs.declared.bad.BadMessage.TheVariants.{Version, Length}

-- what comes next of some bytes: a message, or that so many bytes are needed where so many are held, or no message
pub data Coming : Type 0 where
  Whole : List ℕ → Coming
  NotYet : ℕ → ℕ → Coming
  Broken : BadMessage → Coming

-- a whole message, or why it is none
abbrev pub whole_or_broken : List ℕ → Coming
whole_or_broken message = option_map_or Broken (refusal_of message) (Whole message)

-- What comes next of the bytes held. A header is bad where its version is not 1 or its length is below its own 8 bytes
-- (OpenFlow 1.0.0 section 5.1); what it says of more bytes is waited for.
unfoldable pub next_of : List ℕ → Coming
next_of held =
    if nat_lt (length held) 8 then NotYet 8 (length held)
    else if not (slice_index held 0 == 1) then Broken (Version (slice_index held 0))
    else if nat_lt (big_from 2 2 held) 8 then Broken (Length (big_from 2 2 held) 8)
    else if nat_lt (length held) (big_from 2 2 held) then NotYet (big_from 2 2 held) (length held)
    else whole_or_broken (take (big_from 2 2 held) held)

-- what is held after an answer: a whole message is taken out
abbrev pub left_after : Coming → List ℕ → List ℕ
left_after (Whole message) held = drop (length message) held
left_after _ held = held

-- what is held after what comes next
abbrev pub left_of : List ℕ → List ℕ
left_of held = left_after (next_of held) held

-- a stream is messages, each of them readable, and a rest
pub record IsCut (stream : List ℕ) (messages : List (List ℕ)) (rest : List ℕ) : Type 0 where
  pub whole : stream ≡ concat messages ++ rest
  pub each : All (λ m. refusal_of m ≡ None) messages

-- no readable message begins the bytes
abbrev pub IsDrained : List ℕ → Type 0
IsDrained bytes = (m more : List ℕ) → refusal_of m ≡ None → bytes ≡ m ++ more → ⊥

-- ---- calls of one cutter, in their order

-- a piece is fed, or the next message is asked for
pub data Call : Type 0 where
  Feed : List ℕ → Call
  Ask : Call

-- the pieces that are fed, joined
abbrev pub fed : List Call → List ℕ
fed [] = []
fed (Feed piece ∷ calls) = piece ++ fed calls
fed (Ask ∷ calls) = fed calls

-- the message of an answer, where it has one
abbrev pub message_in : Coming → List (List ℕ)
message_in (Whole m) = m ∷ []
message_in _ = []

-- the messages that are taken out of a cutter which holds some bytes, in order
abbrev pub taken : List ℕ → List Call → List (List ℕ)
taken held [] = []
taken held (Feed piece ∷ calls) = taken (held ++ piece) calls
taken held (Ask ∷ calls) = message_in (next_of held) ++ taken (left_of held) calls

-- what a cutter that holds some bytes holds after calls
abbrev pub held_after : List ℕ → List Call → List ℕ
held_after held [] = held
held_after held (Feed piece ∷ calls) = held_after (held ++ piece) calls
held_after held (Ask ∷ calls) = held_after (left_of held) calls
