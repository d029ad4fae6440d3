-- A step that changes no more than counts, planned before it is done.
use Rattle.std.specs.Prelude.{◌<◌, ◌^◌, Bool, true, false, length, All}
use Rattle.of10_messages.specs.declared.message.Message.{Message}
use Rattle.of10_messages.specs.declared.message.Message.TheVariants as message
use Rattle.switch_core.specs.Step.{Step, counted_at}
use Rattle.switch_core.specs.declared.planned.Counts.{Counts}
use Rattle.switch_core.specs.declared.planned.Planned.{Planned}
use Rattle.switch_core.specs.declared.state.State.{State}

-- the switch once a plan's counts are kept
abbrev pub counted_state : State → Counts → State
counted_state s counts = record s { table = counted_at s.clock s.table counts.hits; next_xid = counts.next_xid }

-- the step that is planned
abbrev pub planned_step : State → Planned → Step
planned_step s planned = record { state = counted_state s planned.counts; up = planned.outs.up; out = planned.outs.out }

-- the counts can be kept: the table has the entries
pub record CanCount (s : State) (counts : Counts) : Type 0 where
  pub hits : All (λ place. place < length s.table) counts.hits
  pub next_xid : counts.next_xid < 2 ^ 32

-- whether a message is a PACKET_OUT
abbrev pub is_packet_out : Message → Bool
is_packet_out (message.PacketOut xid buffer_id in_port actions_len actions content) = true
is_packet_out _ = false
