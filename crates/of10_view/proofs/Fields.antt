-- What a message has, by its type.
use Rattle.std.proofs.Common.{◌≡◌, ◌≤◌, ◌==◌, ◌||◌, ◌∙◌, ℕ, List, [], map, take, drop, slice_index, Some, None, if◌then◌else◌, refl, ap}
use Rattle.std.proofs.lemmas.Bool.{cond_both, eqb-true}
use Rattle.std.specs.Option.{option_map}
use Rattle.byteorder.specs.Endian.{big_from}
use Rattle.of10_match.specs.Wire.{match_of}
use Rattle.of10_messages.specs.Reading.{action_of, actions_of, flow_mod_of, message_of, message_of_kind}
use Rattle.of10_messages.specs.Refusal.{action_starts, first_bad, out_actions}
use Rattle.of10_messages.specs.Wire.{action_kind, message_kind, message_xid}
use Rattle.of10_messages.specs.declared.message.Message.{Message}
use Rattle.of10_messages.specs.TypeCases.{up_to_21}
use Rattle.of10_view.proofs.Taken.{AreInOrder, actions_kinds, actions_taken}
use Rattle.of10_view.specs.Parts.{action_parts, actions_part, data_of_kind, data_part, match_part, message_actions, message_data, message_match}

pub kind_of : (bytes : List ℕ) (m : Message) → slice_index bytes 1 ≤ 21 → m ≡ message_of bytes → message_kind m ≡ slice_index bytes 1
unfolding message_of
kind_of bytes m most is =
    let xid = big_from 4 4 bytes in
    ap message_kind is ∙ up_to_21 (λ k. message_kind (message_of_kind k xid bytes) ≡ k)
    refl refl refl refl refl refl refl refl refl refl refl refl refl refl refl refl refl refl refl refl refl refl (slice_index bytes 1) most

pub xid_of : (bytes : List ℕ) (m : Message) → slice_index bytes 1 ≤ 21 → m ≡ message_of bytes → message_xid m ≡ big_from 4 4 bytes
unfolding message_of
xid_of bytes m most is =
    let xid = big_from 4 4 bytes in
    ap message_xid is ∙ up_to_21 (λ k. message_xid (message_of_kind k xid bytes) ≡ xid)
    refl refl refl refl refl refl refl refl refl refl refl refl refl refl refl refl refl refl refl refl refl refl (slice_index bytes 1) most

pub match_of_message : (bytes : List ℕ) (m : Message) → slice_index bytes 1 ≤ 21 → m ≡ message_of bytes → message_match m ≡ option_map match_of (match_part bytes)
unfolding message_of flow_mod_of
match_of_message bytes m most is =
    let xid = big_from 4 4 bytes in
    ap message_match is ∙ up_to_21 (λ k. message_match (message_of_kind k xid bytes) ≡ option_map match_of (if k == 11 || k == 14 then Some (take 40 (drop 8 bytes)) else None))
    refl refl refl refl refl refl refl refl refl refl refl refl refl refl refl refl refl refl refl refl refl refl (slice_index bytes 1) most

pub data_of_message : (bytes : List ℕ) (m : Message) → slice_index bytes 1 ≤ 21 → m ≡ message_of bytes → message_data m ≡ data_part bytes
unfolding message_of data_part
data_of_message bytes m most is =
    let xid = big_from 4 4 bytes in
    ap message_data is ∙ up_to_21 (λ k. message_data (message_of_kind k xid bytes) ≡ data_of_kind k bytes)
    refl refl refl refl refl refl refl refl refl refl refl refl refl refl refl refl refl refl refl refl refl refl (slice_index bytes 1) most

-- ---- actions

actions_of_message : (bytes : List ℕ) (m : Message) → slice_index bytes 1 ≤ 21 → m ≡ message_of bytes → message_actions m ≡ actions_of (actions_part bytes)
unfolding message_of flow_mod_of action_starts
actions_of_message bytes m most is =
    let xid = big_from 4 4 bytes in
    ap message_actions is ∙ up_to_21 (λ k. message_actions (message_of_kind k xid bytes)
    ≡ actions_of (if k == 13 then out_actions bytes else if k == 14 then drop 72 bytes else []))
    refl refl refl refl refl refl refl refl refl refl refl refl refl refl refl refl refl refl refl refl refl refl (slice_index bytes 1) most

-- none of them is bad
none_bad : (bytes : List ℕ) → (slice_index bytes 1 ≡ 13 → first_bad (out_actions bytes) ≡ None) → (slice_index bytes 1 ≡ 14 → first_bad (drop 72 bytes) ≡ None)
    → first_bad (actions_part bytes) ≡ None
unfolding action_starts
none_bad bytes packet_out flow_mod =
    let kind = slice_index bytes 1 in
    let good : List ℕ → Type 0 = λ part. first_bad part ≡ None in
    cond_both (kind == 13) _ _ good (λ is. packet_out (eqb-true kind 13 is))
    (λ _. cond_both (kind == 14) _ _ good (λ is. flow_mod (eqb-true kind 14 is)) (λ _. refl))

pub actions_from_parts : (bytes : List ℕ) (m : Message) → AreInOrder → (slice_index bytes 1 ≡ 13 → first_bad (out_actions bytes) ≡ None)
    → (slice_index bytes 1 ≡ 14 → first_bad (drop 72 bytes) ≡ None) → slice_index bytes 1 ≤ 21 → m ≡ message_of bytes
    → message_actions m ≡ map (λ (part : ℕ × List ℕ). action_of part.1) (action_parts (actions_part bytes))
actions_from_parts bytes m order packet_out flow_mod most is =
    actions_of_message bytes m most is ∙ actions_taken (actions_part bytes) order (none_bad bytes packet_out flow_mod)

pub kinds_from_parts : (bytes : List ℕ) (m : Message) → slice_index bytes 1 ≤ 21 → m ≡ message_of bytes
    → map action_kind (message_actions m) ≡ map (λ (part : ℕ × List ℕ). part.0) (action_parts (actions_part bytes))
kinds_from_parts bytes m most is = ap (map action_kind) (actions_of_message bytes m most is) ∙ actions_kinds (actions_part bytes)
