-- What a list of actions does with a packet: OpenFlow 1.0.0 section 3.3, with sections 5.2.1 (reserved ports) and 5.2.4.
use Rattle.std.specs.Prelude.{ℕ, ◌==◌, ◌&&◌, ◌||◌, Bool, true, false, not, List, [], ◌∷◌, ◌++◌, map, filter, nat_le, if◌then◌else◌}
use Rattle.std.specs.List.{range_with_len}
use Rattle.of10_match.specs.declared.header.Header.{Header}
use Rattle.of10_messages.specs.declared.action.Action.{Action}
use Rattle.of10_messages.specs.declared.action.Action.TheVariants as action
use Rattle.flow_table.specs.declared.outputs.Output.{Output}
use Rattle.flow_table.specs.declared.outputs.Target.TheVariants.{Port, Controller}

-- The header after an action: a set writes its own field alone. Without a tag the VLAN id is 65535 and the priority 0.
abbrev pub after_action : Header → Action → Header
after_action h (action.SetVlanVid vlan) = record h { dl_vlan = vlan }
after_action h (action.SetVlanPcp pcp) = record h { dl_vlan_pcp = pcp }
after_action h action.StripVlan = record h { dl_vlan = 65535; dl_vlan_pcp = 0 }
after_action h (action.SetDlSrc address) = record h { dl_src = address }
after_action h (action.SetDlDst address) = record h { dl_dst = address }
after_action h (action.SetNwSrc address) = record h { nw_src = address }
after_action h (action.SetNwDst address) = record h { nw_dst = address }
after_action h (action.SetNwTos tos) = record h { nw_tos = tos }
after_action h (action.SetTpSrc port) = record h { tp_src = port }
after_action h (action.SetTpDst port) = record h { tp_dst = port }
after_action h _ = h

-- a number is that of a port of a switch with so many ports
abbrev pub is_port : ℕ → ℕ → Bool
is_port ports number = nat_le 1 number && nat_le number ports

-- the ports but one, in order
abbrev pub ports_but : ℕ → ℕ → List ℕ
ports_but ports but = filter (λ port. not (port == but)) (range_with_len 1 ports)

-- Where an Output to a port number sends a packet that came in by a port: IN_PORT (0xfff8) to the port by which it came,
-- if that is one; FLOOD (0xfffb) and ALL (0xfffc) to every other port; CONTROLLER (0xfffd) to the controller; TABLE (0xfff9)
-- to that number, for a PACKET_OUT to hand on; the port by which it came, named by its number, nowhere; any other number to
-- that port. All but FLOOD and ALL are plain.
abbrev pub outputs_to : ℕ → ℕ → Header → ℕ → List Output
outputs_to ports in_port header port =
    if port == 65528 then (if is_port ports in_port then record { target = Port in_port; header = header; plain = true } ∷ [] else [])
    else if port == 65531 || port == 65532 then map (λ other. record { target = Port other; header = header; plain = false }) (ports_but ports in_port)
    else if port == 65533 then record { target = Controller; header = header; plain = true } ∷ []
    else if port == 65529 then record { target = Port port; header = header; plain = true } ∷ []
    else if port == in_port then []
    else record { target = Port port; header = header; plain = true } ∷ []

-- what an action sends
abbrev pub outputs_of : ℕ → ℕ → Header → Action → List Output
outputs_of ports in_port header (action.Output port max_len) = outputs_to ports in_port header port
outputs_of ports in_port header _ = []

-- What a list of actions sends of a packet that came in by a port of a switch with so many ports, in order, each with the
-- header at that action.
abbrev pub outcome : ℕ → ℕ → Header → List Action → List Output
outcome ports in_port header [] = []
outcome ports in_port header (a ∷ actions) = outputs_of ports in_port header a ++ outcome ports in_port (after_action header a) actions
