-- Which switches, and which steps of them, are equal but for numbers that two equal behaviours may differ in. The choice of
-- these numbers is this project's own.
use Rattle.std.specs.Prelude.{◌≡◌, [], map}
use Rattle.flow_table.specs.declared.entry.Entry.{Entry}
use Rattle.masked_equivalence.specs.Mask.{masked_message}
use Rattle.of10_messages.specs.declared.message.Message.{Message}
use Rattle.of10_messages.specs.declared.message.Message.TheVariants as message
use Rattle.switch_core.specs.Step.{Step}
use Rattle.switch_core.specs.declared.state.State.{State}

-- an entry whose cookie and counts are 0
abbrev pub masked_entry : Entry → Entry
masked_entry entry = record entry { cookie = 0; packets = 0; bytes = 0 }

-- a switch with such entries, and 0 as the xid of its next message
abbrev pub masked_state : State → State
masked_state s = record s { table = map masked_entry s.table; next_xid = 0 }

-- two switches are equal but for the next xid, and the cookies and counts of their entries
abbrev pub SameButNumbers : State → State → Type 0
SameButNumbers s t = masked_state s ≡ masked_state t

-- the mask of a message that a switch sends, without the data of an ERROR
abbrev pub masked_answer : Message → Message
masked_answer (message.Error xid kind code content) = message.Error 0 kind code []
masked_answer other = masked_message other

-- Two steps come to switches that are equal but for these numbers; the messages are alike one by one, the data of ERRORs aside;
-- the packets and their ports are the same.
pub record AlikeSteps (one two : Step) : Type 0 where
  pub state : SameButNumbers one.state two.state
  pub up : map masked_answer one.up ≡ map masked_answer two.up
  pub out : one.out ≡ two.out
