-- The state of a switch: what it starts as, and what it can be.
use Rattle.std.specs.Prelude.{◌≡◌, ℕ, ◌<◌, ◌≤◌, ◌^◌, [], length, All}
use Rattle.flow_table.specs.Entry.{IsTable}
use Rattle.flow_table.specs.Expiry.{IsPast}
use Rattle.switch_core.specs.declared.state.State.{State}

-- a switch that has just started: no entries, a clock at 0, the configuration that a switch has by default (OpenFlow 1.0.0
-- section 5.3.2), every port up
abbrev pub fresh : ℕ → ℕ → State
fresh number ports = record {
  number = number;
  ports = ports;
  table = [];
  clock = 0;
  next_xid = 1;
  flags = 0;
  miss_send_len = 128;
  down = 0;
}

-- What a switch can be: each field lies within its range, the table is one, no entry is of a later time than the clock, and
-- none has more actions than about a message holds.
pub record IsState (s : State) : Type 0 where
  pub number : s.number < 65535
  pub some : 1 ≤ s.ports
  pub most : s.ports ≤ 48
  pub table : IsTable s.table
  pub past : All (IsPast s.clock) s.table
  pub small : All (λ entry. length entry.actions ≤ 8183) s.table
  pub clock : s.clock < 2 ^ 32
  pub next_xid : s.next_xid < 2 ^ 32
  pub flags : s.flags < 2 ^ 16
  pub miss_send_len : s.miss_send_len < 2 ^ 16
  pub down : s.down < 2 ^ 64

-- a switch after a step: it has the number and the ports that it had, and its clock shows a time
pub record IsAt (now : ℕ) (before after : State) : Type 0 where
  pub number : after.number ≡ before.number
  pub ports : after.ports ≡ before.ports
  pub clock : after.clock ≡ now
