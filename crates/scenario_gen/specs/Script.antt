-- The script of a seed: each line is drawn in the state in which the line before it leaves the generator.
use Rattle.std.specs.Prelude.{ℕ, zero, suc, ◌+◌, ◌*◌, ◌==◌, nat_lt, List, map, false, if◌then◌else◌}
use Rattle.std.specs.List.{range_with_len}
use Rattle.of10_match.specs.declared.packet.Packet.{Packet}
use Rattle.machine_setup.specs.declared.script.Input.{Input}
use Rattle.machine_setup.specs.declared.script.Input.TheVariants.{Inject, LinkDown, LinkUp, Seconds}
use Rattle.machine_setup.specs.declared.script.Line.{Line}
use Rattle.scenario_gen.specs.Draws.{Draw, ◌>>=◌, below, given}

-- the packet of line k: a UDP datagram without a VLAN from a host to a host; addresses count from 1
abbrev pub datagram : ℕ → ℕ → ℕ → Packet
datagram from to k = record {
  header = record {
    dl_src = from + 1;
    dl_dst = to + 1;
    dl_vlan = 65535;
    dl_vlan_pcp = 0;
    dl_type = 2048;
    nw_tos = 0;
    nw_proto = 17;
    nw_src = from + 1;
    nw_dst = to + 1;
    tp_src = 1000;
    tp_dst = k;
  };
  tag = k;
}

-- a host sends line k's packet to a host: the sender is drawn first, then the receiver
abbrev pub sending : ℕ → ℕ → Draw Input
sending size k = do
  from ← below size
  to ← below size
  given (Inject from (datagram from to k))

-- a link goes down
abbrev pub failing : ℕ → Draw Input
failing size = do
  link ← below size
  given (LinkDown link)

-- a link comes up
abbrev pub recovering : ℕ → Draw Input
recovering size = do
  link ← below size
  given (LinkUp link)

-- 1 to 10 seconds pass
abbrev pub waiting : Draw Input
waiting = do
  more ← below 10
  given (Seconds (1 + more))

-- what line k does, by the number of its kind: of eight kinds the first five are a packet
abbrev pub input_by : ℕ → ℕ → ℕ → Draw Input
input_by size k kind =
    if nat_lt kind 5 then sending size k
    else if kind == 5 then failing size
    else if kind == 6 then recovering size
    else waiting

-- line k of the script of a ring of so many switches: its kind is drawn first; no line waits for quiet
abbrev pub line_by : ℕ → ℕ → Draw Line
line_by size k = do
  kind ← below 8
  input ← input_by size k kind
  given (record { after_quiet = false; input = input })

-- the state in which line k is drawn: the seed, or that in which the line before it leaves the generator
abbrev pub state_before : ℕ → ℕ → ℕ → ℕ
state_before seed size zero = seed
state_before seed size (suc k) = (line_by size k (state_before seed size k)).state

-- line k of the script of a seed
abbrev pub line_of : ℕ → ℕ → ℕ → Line
line_of seed size k = (line_by size k (state_before seed size k)).got

-- three lines for each switch
abbrev pub script_of : ℕ → ℕ → List Line
script_of seed size = map (line_of seed size) (range_with_len 0 (3 * size))
