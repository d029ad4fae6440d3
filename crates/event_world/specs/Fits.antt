-- Which worlds are worlds of a setup.
use Rattle.std.specs.Prelude.{◌≡◌, ℕ, ◌+◌, ◌-◌, ◌*◌, ◌^◌, ◌≤◌, List, [], length, map, slice_get, slice_index, sum, sum_by, All, Option, Some, None, true, false, if◌then◌else◌}
use Rattle.std.specs.Option.{option_map_or}
use Rattle.machine_setup.specs.declared.setup.Setup.{Setup}
use Rattle.message_pools.specs.Item.{IsValidItem}
use Rattle.message_pools.specs.Queue.{Queue, next_number}
use Rattle.message_pools.specs.declared.item.Item.{Item}
use Rattle.message_pools.specs.declared.item.Item.TheVariants as item
use Rattle.of10_messages.specs.declared.notice.Notice.{Notice}
use Rattle.of10_messages.specs.declared.notice.Notice.TheVariants.{Tick, Port, Join}
use Rattle.pool_book.specs.Names.{is_same, names}
use Rattle.pool_book.specs.Pools.{Named, pool_of}
use Rattle.pool_book.specs.declared.name.PoolName.{PoolName}
use Rattle.pool_book.specs.declared.name.PoolName.TheVariants.{Ctl, Pkt, Note, App, Admin, Recv}
use Rattle.switch_core.specs.declared.state.State.{State}
use Rattle.topology.specs.Status.{IsStatus, is_up}
use Rattle.topology.specs.declared.network.Topology.{Topology}
use Rattle.topology.specs.declared.status.Status.{Status}
use Rattle.event_world.specs.Mail.{Mail, Shared}
use Rattle.event_world.specs.World.{Situation}

-- a notice to a switch with so many ports names one of them, if it names a port
abbrev pub IsNoticeOf : ℕ → Notice → Type 0
IsNoticeOf ports (Tick seconds) = Unit {0}
IsNoticeOf ports (Port port down) = (1 ≤ port) × (port ≤ ports)
IsNoticeOf ports (Join down) = Unit {0}

-- an item may wait in a pool, by the numbers of ports of the switches: it is valid and of the pool's kind
abbrev pub IsItemOf : List ℕ → PoolName → Item → Type 0
IsItemOf ports (Ctl s) (item.Message message) = IsValidItem (item.Message message)
IsItemOf ports (Pkt s p) (item.Packet packet) = IsValidItem (item.Packet packet)
IsItemOf ports (Note s) (item.Notice notice) = IsNoticeOf (slice_index ports s) notice
IsItemOf ports (App c s) (item.Message message) = IsValidItem (item.Message message)
IsItemOf ports (App c s) item.Gone = Unit {0}
IsItemOf ports (Admin c) (item.Policy deny) = IsValidItem (item.Policy deny)
IsItemOf ports (Recv h) (item.Packet packet) = IsValidItem (item.Packet packet)
IsItemOf ports name other = ⊥

-- the switch that has to be up where something waits in the pool
abbrev pub switch_of : PoolName → Option ℕ
switch_of (Ctl s) = Some s
switch_of (Pkt s p) = Some s
switch_of (Note s) = Some s
switch_of name = None

-- What a pool of a world holds after so many events: items of its kind, whose numbers grow by less than 2^32 with each event;
-- and nothing at a switch that is down.
pub record IsPool (ports : List ℕ) (status : Status) (events : ℕ) (pool : PoolName × Queue) : Type 0 where
  pub items : All (IsItemOf ports pool.0) pool.1.items
  pub numbers : next_number pool.1 ≤ 1 + events * (2 ^ 32 - 1)
  pub down : (s : ℕ) → switch_of pool.0 ≡ Some s → is_up status.switch_up s ≡ false → pool.1.items ≡ []

-- a shared part of a network under so many controllers: it has all that the network has, and no host has received more packets
-- than events happened
pub record IsShared (topology : Topology) (controllers : ℕ) (shared : Shared) : Type 0 where
  pub status : IsStatus topology shared.status
  pub received : length shared.received ≡ length topology.hosts
  pub counts : All (λ count. count ≤ shared.events) shared.received
  pub names : map (λ pool. pool.0) shared.pools ≡ names topology.ports controllers (length topology.hosts)
  pub pools : All (IsPool topology.ports shared.status shared.events) shared.pools

-- an item may be put into a pool, where the switches have these numbers of ports and this is the status: it is of the pool's
-- kind, and the pool is not at a switch that is down
pub record IsDeliverable (ports : List ℕ) (status : Status) (one : PoolName × Item) : Type 0 where
  pub kind : IsItemOf ports one.0 one.1
  pub up : (s : ℕ) → switch_of one.0 ≡ Some s → is_up status.switch_up s ≡ true

-- the seconds of a notice
abbrev pub seconds_of : Item → ℕ
seconds_of (item.Notice (Tick seconds)) = seconds
seconds_of other = 0

-- the seconds that a switch is still to be told of
abbrev pub waiting_seconds : ℕ → Named → ℕ
waiting_seconds s pools = option_map_or (λ queue. sum (map seconds_of queue.items)) (pool_of (Note s) pools) 0

-- how many policies a controller is still to hear
abbrev pub waiting_policies : ℕ → Named → ℕ
waiting_policies c pools = option_map_or (λ queue. length queue.items) (pool_of (Admin c) pools) 0

-- the seconds that mail tells a switch of
abbrev pub seconds_to : ℕ → Mail → ℕ
seconds_to s mail = sum_by (λ one. if is_same (Note s) one.0 then seconds_of one.1 else 0) mail

-- A switch of a world: it has its number and its ports, and its clock with the seconds that it is still to be told of is at most
-- a million for each input.
pub record IsSwitchOf (ports : List ℕ) (shared : Shared) (s : ℕ) (state : State) : Type 0 where
  pub number : state.number ≡ s
  pub width : state.ports ≡ slice_index ports s
  pub clock : state.clock + waiting_seconds s shared.pools ≤ 1000000 * shared.inputs

module _ {C : Type 0} (policies : C → ℕ) where
  -- The world has what the setup has, and each of its parts is one of the setup. A controller keeps at most a policy for each
  -- input, with those that it is still to hear; and there were few enough inputs that no clock passes 4,294,000,000.
  pub record Fits (setup : Setup C) (world : Situation C) : Type 0 where
    pub shared : IsShared setup.topology (length setup.controllers) world.shared
    pub switches : length world.switches ≡ length setup.topology.ports
    pub each_switch : (s : ℕ) (state : State) → slice_get world.switches s ≡ Some state → IsSwitchOf setup.topology.ports world.shared s state
    pub controllers : length world.controllers ≡ length setup.controllers
    pub inputs : world.shared.inputs ≤ 4294
    pub each_controller : (c : ℕ) (state : C) → slice_get world.controllers c ≡ Some state → policies state + waiting_policies c world.shared.pools ≤ world.shared.inputs
