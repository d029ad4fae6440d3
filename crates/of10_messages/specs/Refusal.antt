-- Which bytes are refused, and why: the first reason that holds, in one order.
use Rattle.std.specs.Prelude.{◌≡◌, ◌≤◌, true, false, get_or, ℕ, ◌+◌, ◌-◌, ◌%◌, ◌==◌, ◌&&◌, ◌||◌, Bool, not, List, [], ◌∷◌, length, take, drop, slice_index, Option, Some, None, option_map, nat_lt, nat_le, if◌then◌else◌, zero, suc}
use Rattle.std.specs.List.{find}
use Rattle.byteorder.specs.Endian.{big_from}
use Rattle.of10_messages.specs.declared.extents.Extent.{Extent}
use Rattle.of10_messages.specs.declared.extents.Extent.TheVariants.{Exactly, AtLeast}
use Rattle.of10_messages.specs.declared.bad.BadMessage.{BadMessage}
use Rattle.of10_messages.specs.declared.bad.BadMessage.TheVariants.{Short, Version, Length, Kind, BodyLength, BadAction}

-- ---- actions, section 5.2.4

-- the length that an action says it has, after its type
abbrev pub told_length : List ℕ → ℕ
told_length bytes = big_from 2 2 bytes

-- The bytes from the start of each action to the end of all, the first `skip` bytes being the rest of an earlier
-- action. An action begins where the one before it ends by its own length.
unfoldable pub action_starts : ℕ → List ℕ → List (List ℕ)
action_starts skip [] = []
action_starts zero (b ∷ bytes) = (b ∷ bytes) ∷ action_starts (told_length (b ∷ bytes) - 1) bytes
action_starts (suc skip) (b ∷ bytes) = action_starts skip bytes

-- the length of an action by its type, which is 0 to 11: 16 bytes for an Ethernet address and for Enqueue, else 8
abbrev pub fixed_length : ℕ → ℕ
fixed_length kind = if kind == 4 || (kind == 5 || kind == 11) then 16 else 8

-- An action is bad where fewer than 8 bytes are left, or its length is below 8, not a multiple of 8, past the end of
-- the actions, or not the one of its type.
unfoldable pub is_bad_action : List ℕ → Bool
is_bad_action bytes =
    nat_lt (length bytes) 8 || (nat_lt (told_length bytes) 8 || (not (told_length bytes % 8 == 0) || (nat_lt (length bytes) (told_length bytes)
    || (nat_le (big_from 0 2 bytes) 11 && not (told_length bytes == fixed_length (big_from 0 2 bytes))))))

-- what holds of an action that is not bad
pub record IsGoodAction (bytes : List ℕ) : Type 0 where
  pub least : 8 ≤ told_length bytes
  pub room : told_length bytes ≤ length bytes
  pub padded : told_length bytes % 8 ≡ 0
  pub fixed : big_from 0 2 bytes ≤ 11 → told_length bytes ≡ fixed_length (big_from 0 2 bytes)

-- the type at the start of an action, or 0 where fewer than two bytes are left
abbrev pub kind_at_start : List ℕ → ℕ
kind_at_start bytes = if nat_lt (length bytes) 2 then 0 else big_from 0 2 bytes

-- where the first bad action of some actions starts
abbrev pub first_bad : List ℕ → Option (List ℕ)
first_bad bytes = find is_bad_action (action_starts 0 bytes)

-- the refusal of actions that stand at a place of a message, for the first bad one
abbrev pub bad_action : ℕ → List ℕ → Option BadMessage
bad_action place bytes = option_map (λ rest. BadAction (place + (length bytes - length rest)) (kind_at_start rest)) (first_bad bytes)

-- the bytes of the actions of a PACKET_OUT, whose length stands before them (section 5.3.6)
abbrev pub out_actions : List ℕ → List ℕ
out_actions bytes = take (big_from 14 2 bytes) (drop 16 bytes)

-- the refusal of the actions of a message of a type: those of PACKET_OUT and of FLOW_MOD (section 5.3.3)
abbrev pub bad_action_of_kind : ℕ → List ℕ → Option BadMessage
bad_action_of_kind kind bytes =
    if kind == 13 then bad_action 16 (out_actions bytes)
    else if kind == 14 then bad_action 72 (drop 72 bytes)
    else None

-- the refusal of the actions of a message, by the type in its header
abbrev pub bad_action_of : List ℕ → Option BadMessage
bad_action_of bytes = bad_action_of_kind (slice_index bytes 1) bytes

-- ---- the lengths of messages

-- How long the messages of each type are, the types in order (section 5.1, ofp_type): just that long, or that long up to
-- their first part of any length. Where the whole body is kept as it is, that is the header (which lengths are refused is
-- this project's own rule).
abbrev pub extents : List Extent
extents =
    AtLeast 8  -- HELLO
    ∷ AtLeast 12  -- ERROR
    ∷ AtLeast 8  -- ECHO_REQUEST
    ∷ AtLeast 8  -- ECHO_REPLY
    ∷ AtLeast 8  -- VENDOR
    ∷ Exactly 8  -- FEATURES_REQUEST
    ∷ AtLeast 32  -- FEATURES_REPLY
    ∷ Exactly 8  -- GET_CONFIG_REQUEST
    ∷ Exactly 12  -- GET_CONFIG_REPLY
    ∷ Exactly 12  -- SET_CONFIG
    ∷ AtLeast 18  -- PACKET_IN
    ∷ Exactly 88  -- FLOW_REMOVED
    ∷ Exactly 64  -- PORT_STATUS
    ∷ AtLeast 16  -- PACKET_OUT
    ∷ AtLeast 72  -- FLOW_MOD
    ∷ AtLeast 8  -- PORT_MOD
    ∷ AtLeast 8  -- STATS_REQUEST
    ∷ AtLeast 8  -- STATS_REPLY
    ∷ Exactly 8  -- BARRIER_REQUEST
    ∷ Exactly 8  -- BARRIER_REPLY
    ∷ AtLeast 8  -- QUEUE_GET_CONFIG_REQUEST
    ∷ AtLeast 8  -- QUEUE_GET_CONFIG_REPLY
    ∷ []

-- how long the messages of a type are; no message has a type above 21
abbrev pub extent_of : ℕ → Extent
extent_of kind = get_or extents kind (AtLeast 8)

-- whether a length is the only one
abbrev pub is_exact : Extent → Bool
is_exact (Exactly n) = true
is_exact (AtLeast n) = false

-- the least of the lengths
abbrev pub least_within : Extent → ℕ
least_within (Exactly n) = n
least_within (AtLeast n) = n

-- whether all messages of a type have one length
abbrev pub is_fixed : ℕ → Bool
is_fixed kind = is_exact (extent_of kind)

-- the length of a message of a type up to its first part of any length
abbrev pub least_length : ℕ → ℕ
least_length kind = least_within (extent_of kind)

-- Whether bytes have a length of a type: that one or more, or just that one. After a FEATURES_REPLY's there are whole
-- ports of 48 bytes, and after a PACKET_OUT's the actions of the length that it says.
abbrev pub has_body_of_kind : ℕ → List ℕ → Bool
has_body_of_kind kind bytes =
    if is_fixed kind then length bytes == least_length kind
    else nat_le (least_length kind) (length bytes)
    && (if kind == 6 then (length bytes - 32) % 48 == 0
    else if kind == 13 then nat_le (16 + big_from 14 2 bytes) (length bytes)
    else true)

-- whether bytes have a length of the type in their header
unfoldable pub has_body : List ℕ → Bool
has_body bytes = has_body_of_kind (slice_index bytes 1) bytes

-- ---- messages

-- why bytes are no message, section 5.1 (ofp_header) first: fewer bytes than a header, another version than 1, another
-- length than the header's, a type above 21, a length that the type has not, and a bad action
unfoldable pub refusal_of : List ℕ → Option BadMessage
refusal_of bytes =
    if nat_lt (length bytes) 8 then Some Short
    else if not (slice_index bytes 0 == 1) then Some (Version (slice_index bytes 0))
    else if not (big_from 2 2 bytes == length bytes) then Some (Length (big_from 2 2 bytes) (length bytes))
    else if nat_lt 21 (slice_index bytes 1) then Some (Kind (slice_index bytes 1))
    else if not (has_body bytes) then Some (BodyLength (slice_index bytes 1) (length bytes))
    else bad_action_of bytes

-- what holds of bytes that are not refused
pub record IsAccepted (bytes : List ℕ) : Type 0 where
  pub header : 8 ≤ length bytes
  pub version : slice_index bytes 0 ≡ 1
  pub told : big_from 2 2 bytes ≡ length bytes
  pub kind : slice_index bytes 1 ≤ 21
  pub body : has_body bytes ≡ true
  pub actions : bad_action_of bytes ≡ None
