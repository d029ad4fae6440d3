-- What a switch says of itself and of its ports: OpenFlow 1.0.0 sections 5.2.1 (ofp_phy_port) and 5.3.1 (ofp_switch_features).
-- Names, addresses and the fixed values are this project's own.
use Rattle.std.specs.Prelude.{ℕ, ◌+◌, ◌-◌, ◌*◌, ◌/◌, ◌%◌, ◌^◌, ◌==◌, Bool, true, false, List, [], ◌∷◌, ◌++◌, map, take, replicate, bit_xor, nat_lt, if◌then◌else◌}
use Rattle.std.specs.List.{range_with_len}
use Rattle.of10_messages.specs.declared.message.Features.{Features}
use Rattle.of10_messages.specs.declared.port.PortDesc.{PortDesc}
use Rattle.switch_core.specs.declared.state.State.{State}

-- whether a mask of down ports has a port: bit 0 is for port 1
abbrev pub is_down : ℕ → ℕ → Bool
is_down down port = down / 2 ^ (port - 1) % 2 == 1

-- the mask with the bit of a port set or cleared: it is flipped where it is not yet as it should be
abbrev pub with_port : ℕ → ℕ → Bool → ℕ
with_port down port true = if is_down down port then down else bit_xor down (2 ^ (port - 1))
with_port down port false = if is_down down port then bit_xor down (2 ^ (port - 1)) else down

-- the decimal digits of a port number, of which there are at most two, in ASCII
abbrev pub port_digits : ℕ → List ℕ
port_digits port = if nat_lt port 10 then (48 + port) ∷ [] else (48 + port / 10) ∷ (48 + port % 10) ∷ []

-- A port of a switch: its address is the bytes 02, 00, the number of the switch and one, the number of the port; its name is
-- `p` and that number, with zeros after it; its state has bit 0 where the port is down.
abbrev pub port_desc : State → ℕ → PortDesc
port_desc s port = record {
  port_no = port;
  hw_addr = 2 * 2 ^ 40 + (s.number + 1) * 2 ^ 16 + port;
  name = take 16 (112 ∷ (port_digits port ++ replicate 16 0));
  config = 0;
  state = if is_down s.down port then 1 else 0;
  curr = 0;
  advertised = 0;
  supported = 0;
  peer = 0;
}

-- the switch: no buffers, one table, no capabilities, all eleven types of actions that it applies, and its ports in order
abbrev pub features : State → Features
features s = record {
  datapath_id = s.number + 1;
  n_buffers = 0;
  n_tables = 1;
  capabilities = 0;
  actions = 2047;
  ports = map (port_desc s) (range_with_len 1 s.ports);
}
