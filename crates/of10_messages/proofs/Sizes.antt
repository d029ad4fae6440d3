-- The lengths of the parts of messages.
use Rattle.std.proofs.Common.{◌≡◌, ◌+◌, ◌*◌, ◌<◌, ◌^◌, ℕ, get_or, List, [], ◌∷◌, length, refl, ap, arith, length-append}
use Rattle.std.specs.Prelude.{All}
use Rattle.std.specs.List.{flat_map}
use Rattle.std.proofs.lemmas.List.Folds.{length-flat_map-take}
use Rattle.of10_messages.specs.declared.action.Action.{Action}
use Rattle.of10_messages.specs.declared.action.Action.TheVariants as action
use Rattle.of10_messages.specs.Lengths.{action_len, actions_len, message_len}
use Rattle.std.proofs.lemmas.List.Elements.{All-head, All-tail}
use Rattle.std.proofs.lemmas.List.Sums.{sum_by-cons}
use Rattle.of10_match.specs.Wire.{match_bytes}
use Rattle.of10_match.specs.declared.matches.Match.{Match}
use Rattle.of10_messages.specs.Valid.{HasValidBody, IsValidPort}
use Rattle.of10_messages.specs.Wire.{action_bytes, actions_bytes, body_bytes, canon_bytes, features_bytes, features_fields, flow_mod_bytes, flow_mod_fields, port_bytes, port_head, port_tail, removal_fields}
use Rattle.of10_messages.specs.declared.message.Message.{Message}
use Rattle.of10_messages.specs.declared.message.Message.TheVariants as message
use Rattle.of10_messages.specs.declared.message.FlowMod.{FlowMod}
use Rattle.of10_messages.specs.declared.message.Features.{Features}
use Rattle.of10_messages.specs.declared.port.PortDesc.{PortDesc}

pub length_match : (m : Match) → length (match_bytes m) ≡ 40
unfolding match_bytes
length_match m = refl

pub length_port : (p : PortDesc) → length p.name ≡ 16 → length (port_bytes p) ≡ 48
unfolding port_bytes port_head port_tail
length_port p named = simp length-append (omega (arith, named))

pub length_ports : (ports : List PortDesc) → All IsValidPort ports → length (flat_map port_bytes ports) ≡ 48 * length ports
length_ports [] named = refl
length_ports (p ∷ ports) named =
    let valid : IsValidPort p = All-head IsValidPort p ports named in
    let one = length_port p valid.name_length in
    let rest = length_ports ports (All-tail IsValidPort p ports named) in
    simp length-append (omega (arith, one, rest))

pub length_features : (f : Features) → All IsValidPort f.ports → length (features_bytes f) ≡ 24 + 48 * length f.ports
unfolding features_bytes features_fields
length_features f named = simp length-append (omega (arith, length_ports f.ports named))

pub length_flow_mod : (f : FlowMod) → length (flow_mod_bytes f) ≡ 64 + length (actions_bytes f.actions)
unfolding flow_mod_bytes flow_mod_fields
length_flow_mod f = simp length-append (omega (arith, length_match f.matches))

-- each of some actions is no longer than all
pub action_fits : (actions : List Action) (i : ℕ) (a : Action) → i < length actions → a ≡ get_or actions i a → length (actions_bytes actions) < 2 ^ 16 → length (action_bytes a) < 2 ^ 16
action_fits actions i a within is fits =
    let part = length-flat_map-take action_bytes actions i a within in
    let same : length (action_bytes a) ≡ length (action_bytes (get_or actions i a)) = ap (λ (x : Action). length (action_bytes x)) is in
    omega (arith, part, same, fits)

length_action : (a : Action) → length (action_bytes a) ≡ action_len a
unfolding action_bytes
length_action (action.Output port max_len) = refl
length_action (action.SetVlanVid vlan) = refl
length_action (action.SetVlanPcp pcp) = refl
length_action action.StripVlan = refl
length_action (action.SetDlSrc address) = refl
length_action (action.SetDlDst address) = refl
length_action (action.SetNwSrc address) = refl
length_action (action.SetNwDst address) = refl
length_action (action.SetNwTos tos) = refl
length_action (action.SetTpSrc port) = refl
length_action (action.SetTpDst port) = refl
length_action (action.Other kind body) = simp length-append (omega arith)

pub length_actions : (actions : List Action) → length (actions_bytes actions) ≡ actions_len actions
length_actions [] = refl
length_actions (a ∷ actions) =
    let one = length_action a in
    let rest = length_actions actions in
    let sum = sum_by-cons action_len a actions in
    simp length-append (omega (arith, one, rest, sum))

-- the body of a message is the message without its header
length_body : (m : Message) → HasValidBody m → 8 + length (body_bytes m) ≡ message_len m
unfolding removal_fields
length_body (message.Hello xid) valid = refl
length_body (message.Error xid kind code content) valid = simp length-append (omega arith)
length_body (message.EchoRequest xid content) valid = refl
length_body (message.EchoReply xid content) valid = refl
length_body (message.FeaturesRequest xid) valid = refl
length_body (message.FeaturesReply xid features) valid = omega (arith, length_features features valid.ports)
length_body (message.GetConfigRequest xid) valid = refl
length_body (message.GetConfigReply xid flags miss_send_len) valid = refl
length_body (message.SetConfig xid flags miss_send_len) valid = refl
length_body (message.PacketIn xid buffer_id total_len in_port reason content) valid = simp length-append (omega arith)
length_body (message.FlowRemoved xid matches cookie priority reason duration_sec duration_nsec idle_timeout packet_count byte_count) valid =
    simp length-append (omega (arith, length_match matches))
length_body (message.PortStatus xid reason port) valid = omega (arith, length_port port valid.1.name_length)
length_body (message.PacketOut xid buffer_id in_port said actions content) valid = simp length-append (omega (arith, length_actions actions))
length_body (message.FlowMod xid mods) valid = omega (arith, length_flow_mod mods, length_actions mods.actions)
length_body (message.BarrierRequest xid) valid = refl
length_body (message.BarrierReply xid) valid = refl
length_body (message.Other xid kind body) valid = refl

pub length_message : (m : Message) → HasValidBody m → length (canon_bytes m) ≡ message_len m
unfolding canon_bytes
length_message m valid = omega (arith, length_body m valid)
