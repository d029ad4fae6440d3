-- The part of the world that all actors share, and what it does with what an actor sends.
use Rattle.std.specs.Prelude.{ℕ, ◌==◌, ◌&&◌, List, fold, filter_map, slice_get, Bool, false, Option, Some, None, option_map, option_and_then, if◌then◌else◌}
use Rattle.std.specs.Option.{option_map_or}
use Rattle.of10_match.specs.declared.packet.Packet.{Packet}
use Rattle.of10_messages.specs.declared.message.Message.{Message}
use Rattle.message_pools.specs.Queue.{with_last}
use Rattle.message_pools.specs.declared.item.Item.{Item}
use Rattle.message_pools.specs.declared.item.Item.TheVariants as item
use Rattle.pool_book.specs.Pools.{Named, changed}
use Rattle.pool_book.specs.declared.name.PoolName.{PoolName}
use Rattle.pool_book.specs.declared.name.PoolName.TheVariants.{Ctl, Pkt, App, Recv}
use Rattle.topology.specs.Status.{is_up, landing}
use Rattle.topology.specs.declared.landing.Landing.{Landing}
use Rattle.topology.specs.declared.landing.Landing.TheVariants.{Wire, Host, Lost}
use Rattle.topology.specs.declared.network.Topology.{Topology}
use Rattle.topology.specs.declared.status.Status.{Status}

-- What all actors share: what is up and where the hosts are, what waits in each pool, how many packets each host has received,
-- and how many events happened since the start, and how many of them were inputs.
pub record Shared : Type 0 where
  pub status : Status
  pub pools : Named
  pub received : List ℕ
  pub events : ℕ
  pub inputs : ℕ

-- items on their way to pools, in order
abbrev pub Mail : Type 0
Mail = List (PoolName × Item)

-- the pools with the mail put into them, in order
abbrev pub with_mail : Mail → Named → Named
with_mail mail pools = fold (λ pools one. changed one.0 (λ queue. with_last queue one.1) pools) pools mail

-- ---- where outputs go

-- the controller of a switch, if it has one
abbrev pub owner_of : Topology → ℕ → Option ℕ
owner_of topology s = option_and_then (λ owner. owner) (slice_get topology.owner s)

-- a message from a switch comes to its controller, if it has one and the channel is up; else it is lost
abbrev pub up_from : Topology → Status → ℕ → Option PoolName
up_from topology status s = if is_up status.control_up s then option_map (λ c. App c s) (owner_of topology s) else None

-- whether a switch has the controller
abbrev pub is_under : Topology → ℕ → ℕ → Bool
is_under topology c s = option_map_or (λ owner. owner == c) (owner_of topology s) false

-- a message from a controller comes to a switch of its own, if the channel and the switch are up; else it is lost
abbrev pub down_to : Topology → Status → ℕ → ℕ → Option PoolName
down_to topology status c s =
    if is_under topology c s && (is_up status.control_up s && is_up status.switch_up s) then Some (Ctl s) else None

-- a packet that leaves a switch comes to where it lands, or is lost
abbrev pub pool_at : Landing → Option PoolName
pool_at (Wire s p) = Some (Pkt s p)
pool_at (Host h) = Some (Recv h)
pool_at (Lost why) = None

abbrev pub out_of : Topology → Status → ℕ → ℕ → Option PoolName
out_of topology status s p = pool_at (landing topology status s p)

-- ---- mail

-- an item for a pool, if there is one
abbrev pub addressed : Option PoolName → Item → Option (PoolName × Item)
addressed name item = option_map (λ name. (name, item)) name

-- the messages that a switch sends to its controller
abbrev pub mail_up : Topology → Status → ℕ → List Message → Mail
mail_up topology status s up = filter_map (λ message. addressed (up_from topology status s) (item.Message message)) up

-- the packets that a switch sends out of its ports
abbrev pub mail_out : Topology → Status → ℕ → List (ℕ × Packet) → Mail
mail_out topology status s out = filter_map (λ emitted. addressed (out_of topology status s emitted.0) (item.Packet emitted.1)) out

-- the messages that a controller sends, each with its switch
abbrev pub mail_down : Topology → Status → ℕ → List (ℕ × Message) → Mail
mail_down topology status c sent = filter_map (λ one. addressed (down_to topology status c one.0) (item.Message one.1)) sent
