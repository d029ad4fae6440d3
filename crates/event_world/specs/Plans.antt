-- What a switch is to do with the first item of a pool: a plan that changes counts alone, or a command.
use Rattle.std.specs.Prelude.{◌≡◌, ℕ, ◌+◌, ◌<◌, ◌^◌, length, Option, Some, None, false}
use Rattle.message_pools.specs.declared.item.Item.{Item}
use Rattle.message_pools.specs.declared.item.Item.TheVariants as item
use Rattle.of10_messages.specs.declared.message.Message.{Message}
use Rattle.pool_book.specs.declared.name.PoolName.{PoolName}
use Rattle.pool_book.specs.declared.name.PoolName.TheVariants.{Ctl, Note}
use Rattle.switch_core.specs.Leaving.{IsValidOuts}
use Rattle.of10_messages.specs.Valid.{IsValidMessage}
use Rattle.switch_core.specs.Plan.{CanCount, is_packet_out, planned_step}
use Rattle.switch_core.specs.Step.{HasRoomFor, Step, handled, noticed, silent}
use Rattle.switch_core.specs.declared.planned.Planned.{Planned}
use Rattle.switch_core.specs.declared.state.State.{State}
use Rattle.event_world.specs.World.{switch_step}

-- the plan is what a switch does with an item of a pool; it can be carried out, and sends what is valid and fewer than 2^32 things
pub record IsPlan (state : State) (name : PoolName) (item : Item) (planned : Planned) : Type 0 where
  pub step : planned_step state planned ≡ switch_step state name item
  pub fits : CanCount state planned.counts
  pub valid : IsValidOuts planned.outs
  pub few : length planned.outs.up + length planned.outs.out < 2 ^ 32

-- the same of the switch that stands at a place, if one does
abbrev pub IsPlanFor : Option State → PoolName → Item → Planned → Type 0
IsPlanFor found name item planned = (state : State) × (found ≡ Some state) × IsPlan state name item planned

-- what was found for a message: a plan, or that it is no PACKET_OUT
abbrev pub IsPlanned : ℕ → Option State → Message → Option Planned → Type 0
IsPlanned s found message (Some planned) = IsPlanFor found (Ctl s) (item.Message message) planned
IsPlanned s found message None = is_packet_out message ≡ false

-- an item that is no PACKET_OUT and no packet
abbrev pub IsCommand : PoolName → Item → Type 0
IsCommand (Ctl s) (item.Message message) = is_packet_out message ≡ false
IsCommand (Note s) (item.Notice notice) = Unit {0}
IsCommand name item = ⊥

-- what a switch becomes and sends at a command
abbrev pub commanded : State → Item → Step
commanded state (item.Message message) = handled state message
commanded state (item.Notice notice) = noticed state notice
commanded state item = silent state

-- a command is one that the switch can take: its message is valid, or it has room for its notice
abbrev pub CanTake : State → Item → Type 0
CanTake state (item.Message message) = IsValidMessage message
CanTake state (item.Notice notice) = HasRoomFor state notice
CanTake state item = ⊥
