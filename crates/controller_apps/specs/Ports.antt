-- The port at which each address is known, switch by switch.
use Rattle.std.specs.Prelude.{ℕ, Option, option_and_then, option_map, unwrap_or}
use Rattle.std.specs.Coded.{Coded, coded_ℕ}
use Rattle.std.specs.FinMap as map
use Rattle.std.specs.Ordering.{nat_cmp}

-- the ports of one switch, by address
abbrev pub AtSwitch : Type 0
AtSwitch = map.FinMap nat_cmp ℕ

-- those of all switches, by switch
abbrev pub Ports : Type 0
Ports = map.FinMap nat_cmp AtSwitch

-- no address is known
abbrev pub no_ports : Ports
no_ports = map.empty

-- the port at which an address is known at a switch
abbrev pub port_at : ℕ → ℕ → Ports → Option ℕ
port_at s address ports = option_and_then (λ there. map.get there address) (map.get ports s)

-- what is known of a switch, if anything is: the port at which an address is known there, if it is
abbrev pub entry_at : ℕ → ℕ → Ports → Option (Option ℕ)
entry_at s address ports = option_map (λ there. map.get there address) (map.get ports s)

-- the address is known at a port of the switch, and at no other port of it
abbrev pub with_port : ℕ → ℕ → ℕ → Ports → Ports
with_port s address port ports = map.insert ports s (map.insert (unwrap_or (map.get ports s) map.empty) address port)

-- nothing is known at the switch
abbrev pub without_switch : ℕ → Ports → Ports
without_switch s ports = map.remove ports s

-- numbers by which a proof tells two such tables apart
abbrev pub ports_code : Coded Ports
ports_code = map.code coded_ℕ (map.code coded_ℕ coded_ℕ)
