-- Why a switch refuses a request: types and codes of ERROR, OpenFlow 1.0.0 section 5.4.4. Where the standard leaves open which
-- bad request gets which, the choice is this project's own, and so is the order of the tests.
use Rattle.std.specs.Prelude.{ℕ, ◌==◌, ◌&&◌, ◌||◌, Bool, false, not, List, slice_get, filter_map, Option, Some, None, bit_and, nat_le, nat_lt, if◌then◌else◌}
use Rattle.flow_table.specs.Outcome.{is_port}
use Rattle.of10_messages.specs.declared.action.Action.{Action}
use Rattle.of10_messages.specs.declared.action.Action.TheVariants as action
use Rattle.of10_messages.specs.declared.message.FlowMod.{FlowMod}

-- A port that an Output may name: one of the switch's, IN_PORT (0xfff8), FLOOD (0xfffb), ALL (0xfffc) or CONTROLLER (0xfffd),
-- and in a PACKET_OUT TABLE (0xfff9).
abbrev pub is_output_port : Bool → ℕ → ℕ → Bool
is_output_port in_packet_out ports port =
    is_port ports port || (port == 65528 || (port == 65531 || (port == 65532 || (port == 65533 || (in_packet_out && port == 65529)))))

-- Why an action is refused: a vendor's (BAD_ACTION, BAD_VENDOR); of another type that is not applied (BAD_TYPE); an Output to
-- no such port (BAD_OUT_PORT); a VLAN id above 4095 or a priority above 7 (BAD_ARGUMENT).
abbrev pub action_refusal : Bool → ℕ → Action → Option (ℕ × ℕ)
action_refusal in_packet_out ports (action.Other kind body) = Some (2, if kind == 65535 then 2 else 0)
action_refusal in_packet_out ports (action.Output port max_len) = if is_output_port in_packet_out ports port then None else Some (2, 4)
action_refusal in_packet_out ports (action.SetVlanVid vlan) = if nat_lt 4095 vlan then Some (2, 5) else None
action_refusal in_packet_out ports (action.SetVlanPcp pcp) = if nat_lt 7 pcp then Some (2, 5) else None
action_refusal in_packet_out ports _ = None

-- the first action that is refused decides
abbrev pub actions_refusal : Bool → ℕ → List Action → Option (ℕ × ℕ)
actions_refusal in_packet_out ports actions = slice_get (filter_map (action_refusal in_packet_out ports) actions) 0

-- Why a FLOW_MOD is refused before the table is asked: the flag for emergencies, bit 2 (FLOW_MOD_FAILED, EPERM); no such
-- command (BAD_COMMAND); of ADD (0) and the two MODIFYs (1, 2) an action.
abbrev pub flow_mod_refusal : ℕ → FlowMod → Option (ℕ × ℕ)
flow_mod_refusal ports mods =
    if not (bit_and mods.flags 4 == 0) then Some (3, 2)
    else if nat_lt 4 mods.command then Some (3, 4)
    else if nat_le mods.command 2 then actions_refusal false ports mods.actions
    else None
