-- How a switch takes the first item of a pool: what it can be, what the world becomes, and that the world still fits.
use Rattle.std.proofs.Common.{◌≡◌, ◌∙◌, ℕ, ◌+◌, ◌<◌, ◌≤◌, ◌^◌, max, false, List, [], ◌++◌, length, get_or, slice_get, slice_set, Option, Some, None, option_map, All, ap, arith, refl, subst, sym}
use Rattle.std.specs.Prelude.{IsSome, OnErr, Result, Ok, Err, filter_map, option_and_then}
use Rattle.std.specs.Option.{option_map_or}
use Rattle.std.proofs.lemmas.List.{append-nil, length-append}
use Rattle.std.proofs.lemmas.Option.{get_or_from_slice_get, same_Some, slice_get_read, some_pair_parts}
use Rattle.of10_match.specs.Packet.{IsValidPacket}
use Rattle.of10_match.specs.declared.packet.Packet.{Packet}
use Rattle.of10_messages.specs.Valid.{IsValidMessage}
use Rattle.of10_messages.specs.declared.message.Message.{Message}
use Rattle.of10_messages.specs.declared.notice.Notice.{Notice}
use Rattle.of10_messages.specs.declared.notice.Notice.TheVariants.{Tick, Port, Join}
use Rattle.controller_api.specs.Reaction.{Reaction}
use Rattle.controller_api.specs.declared.item.UpItem.{UpItem}
use Rattle.machine_setup.specs.declared.setup.Setup.{Setup}
use Rattle.listed.specs.Lists.{set_same}
use Rattle.message_pools.specs.Queue.{Reserved, head_of, rest_of}
use Rattle.message_pools.specs.declared.item.Item.{Item}
use Rattle.message_pools.specs.declared.item.Item.TheVariants as item
use Rattle.pool_book.specs.Pools.{HasRoomFor as HasMoreRoom, Named, changed, pool_of, queues, room_of}
use Rattle.pool_book.specs.declared.name.PoolName.{PoolName}
use Rattle.pool_book.specs.declared.name.PoolName.TheVariants.{Ctl, Pkt, Note}
use Rattle.switch_core.specs.Leaving.{IsValidOuts}
use Rattle.switch_core.specs.Plan.{CanCount, is_packet_out, planned_step}
use Rattle.switch_core.specs.State.{IsAt}
use Rattle.switch_core.specs.Step.{HasRoomFor, Step, handled, noticed, received, time_after}
use Rattle.switch_core.specs.declared.planned.Planned.{Planned}
use Rattle.switch_core.specs.declared.state.State.{State}
use Rattle.topology.specs.declared.network.Topology.{Topology}
use Rattle.event_world.specs.Fits.{Fits, IsItemOf, IsShared, IsSwitchOf, seconds_of, switch_of}
use Rattle.topology.specs.declared.status.Status.{Status}
use Rattle.event_world.specs.Mail.{Mail, Shared, addressed, mail_out, mail_up, up_from, with_mail}
use Rattle.event_world.specs.Plans.{CanTake, IsCommand, IsPlanFor, commanded}
use Rattle.event_world.specs.Room.{CanNumber, HasRoomUp}
use Rattle.event_world.specs.World.{IsFirst, Situation, acted, at_switch, by_switch, counted_world, first_item, sent_by, switch_step, taken, with_item}
use Rattle.event_world.proofs.Delivered.{can_number, seconds_taken, shared_taken}
use Rattle.event_world.proofs.Fitting.{fits_by_switch}
use Rattle.pool_book.specs.Change.{is_itself}
use Rattle.event_world.proofs.Lists.{some_is}
use Rattle.event_world.proofs.Named.{pool_of_queues, queue_there, there_by_queues}
use Rattle.event_world.proofs.Rooms.{there_before}
use Rattle.event_world.proofs.Sent.{length_out, length_up}
use Rattle.event_world.proofs.Within.{item_kind, name_in_range}

-- ---- pools and their room

-- the first item of the pool that is found
pub head_found : (name : PoolName) (pools : List (PoolName × Reserved)) (found : Option Reserved) → found ≡ pool_of name pools → option_and_then head_of (option_map (λ (pool : Reserved). pool.queue) found) ≡ option_and_then head_of (pool_of name (queues pools))
head_found name pools found e = ap (λ (found : Option Reserved). option_and_then head_of (option_map (λ (pool : Reserved). pool.queue) found)) e ∙ ap (option_and_then head_of) (sym (pool_of_queues name pools))

-- once room is made in the pool to which messages come
pub room_made : (app : PoolName) (most : ℕ) (before after : List (PoolName × Reserved)) → queues after ≡ queues before → (IsSome (pool_of app before) → most ≤ room_of app after) → IsSome (pool_of app after) → most ≤ room_of app after
room_made app most before after same room there =
    room (there_by_queues app before (subst (λ (pools : Named). IsSome (pool_of app pools)) same (queue_there app after there)))

-- there is still room once an item is taken
pub room_left : (up : Option PoolName) (most few : ℕ) (name : PoolName) (before after : List (PoolName × Reserved)) → few ≤ most → HasRoomUp up most before → queues after ≡ changed name rest_of (queues before) → HasMoreRoom name 0 before after → HasRoomUp up few after
room_left None most few name before after less room same left = tt
room_left (Some app) most few name before after less room same left = λ there.
    let was : IsSome (pool_of app before) = there_by_queues app before (there_before name app rest_of (queues before) (subst (λ (pools : Named). IsSome (pool_of app pools)) same (queue_there app after there))) in
    let had : most ≤ room_of app before = room was in
    let kept = left app in
    omega arith

-- ---- what the first item is

-- of the packets at a port
packet_first : (ports : List ℕ) (s p number : ℕ) (it : Item) (shared : Shared) → IsItemOf ports (Pkt s p) it → first_item (Pkt s p) shared ≡ Some (number, it) → (packet : Packet) × IsFirst (Pkt s p) (item.Packet packet) shared × IsValidPacket packet
packet_first ports s p number (item.Packet packet) shared kind first = (packet, (number, first), kind)
packet_first ports s p number _ shared kind first = absurd kind

-- of the messages to a switch
message_first : (ports : List ℕ) (s number : ℕ) (it : Item) (shared : Shared) → IsItemOf ports (Ctl s) it → first_item (Ctl s) shared ≡ Some (number, it) → (message : Message) × IsFirst (Ctl s) (item.Message message) shared × IsValidMessage message
message_first ports s number (item.Message message) shared kind first = (message, (number, first), kind)
message_first ports s number _ shared kind first = absurd kind

-- of the notices to a switch
notice_first : (ports : List ℕ) (s number : ℕ) (it : Item) (shared : Shared) → IsItemOf ports (Note s) it → first_item (Note s) shared ≡ Some (number, it) → (it : Item) × IsFirst (Note s) it shared × IsCommand (Note s) it
notice_first ports s number (item.Notice notice) shared kind first = (item.Notice notice, (number, first), tt)
notice_first ports s number _ shared kind first = absurd kind

pub packet_waits : (topology : Topology) (controllers s p : ℕ) (shared : Shared) → IsShared topology controllers shared → IsSome (first_item (Pkt s p) shared) → (packet : Packet) × IsFirst (Pkt s p) (item.Packet packet) shared × IsValidPacket packet
packet_waits topology controllers s p shared fits some =
    let head = some_is (first_item (Pkt s p) shared) some in
    packet_first topology.ports s p head.0.0 head.0.1 shared (item_kind topology controllers (Pkt s p) head.0.0 head.0.1 shared fits head.1) head.1

pub message_waits : (topology : Topology) (controllers s : ℕ) (shared : Shared) → IsShared topology controllers shared → IsSome (first_item (Ctl s) shared) → (message : Message) × IsFirst (Ctl s) (item.Message message) shared × IsValidMessage message
message_waits topology controllers s shared fits some =
    let head = some_is (first_item (Ctl s) shared) some in
    message_first topology.ports s head.0.0 head.0.1 shared (item_kind topology controllers (Ctl s) head.0.0 head.0.1 shared fits head.1) head.1

pub notice_waits : (topology : Topology) (controllers s : ℕ) (shared : Shared) → IsShared topology controllers shared → IsSome (first_item (Note s) shared) → (it : Item) × IsFirst (Note s) it shared × IsCommand (Note s) it
notice_waits topology controllers s shared fits some =
    let head = some_is (first_item (Note s) shared) some in
    notice_first topology.ports s head.0.0 head.0.1 shared (item_kind topology controllers (Note s) head.0.0 head.0.1 shared fits head.1) head.1

-- a packet that waits, whatever it is
pub packet_there : (topology : Topology) (controllers s p : ℕ) (shared : Shared) → IsShared topology controllers shared → IsSome (first_item (Pkt s p) shared) → (packet : Packet) × IsFirst (Pkt s p) (item.Packet packet) shared
packet_there topology controllers s p shared fits some = let waits = packet_waits topology controllers s p shared fits some in (waits.0, waits.1)

pub packet_valid : (topology : Topology) (controllers s p : ℕ) (packet : Packet) (shared : Shared) → IsShared topology controllers shared → IsFirst (Pkt s p) (item.Packet packet) shared → IsValidPacket packet
packet_valid topology controllers s p packet shared fits (number, first) = item_kind topology controllers (Pkt s p) number (item.Packet packet) shared fits first

-- the switch of a pool that has an item is one of the network
pub switch_there : (topology : Topology) (controllers : ℕ) (name : PoolName) (s number : ℕ) (it : Item) (shared : Shared) → IsShared topology controllers shared → switch_of name ≡ Some s → first_item name shared ≡ Some (number, it) → s < length topology.ports
switch_there topology controllers (Ctl t) s number it shared fits own first = subst (λ (n : ℕ). n < length topology.ports) (same_Some t s own) (name_in_range topology controllers (Ctl t) number it shared fits first)
switch_there topology controllers (Pkt t p) s number it shared fits own first = subst (λ (n : ℕ). n < length topology.ports) (same_Some t s own) (name_in_range topology controllers (Pkt t p) number it shared fits first)
switch_there topology controllers (Note t) s number it shared fits own first = subst (λ (n : ℕ). n < length topology.ports) (same_Some t s own) (name_in_range topology controllers (Note t) number it shared fits first)
switch_there topology controllers _ s number it shared fits own first = absurd cc

-- a packet that waits is at a switch of the network
pub packet_within : (topology : Topology) (controllers s p : ℕ) (shared : Shared) → IsShared topology controllers shared → IsSome (first_item (Pkt s p) shared) → s < length topology.ports
packet_within topology controllers s p shared fits some =
    let head = some_is (first_item (Pkt s p) shared) some in
    switch_there topology controllers (Pkt s p) s head.0.0 head.0.1 shared fits refl head.1

-- a message that waits is at a switch of the network
pub message_within : (topology : Topology) (controllers s : ℕ) (shared : Shared) → IsShared topology controllers shared → (message : Message) × IsFirst (Ctl s) (item.Message message) shared × IsValidMessage message → s < length topology.ports
message_within topology controllers s shared fits (message, (number, first), valid) = switch_there topology controllers (Ctl s) s number (item.Message message) shared fits refl first

-- ---- plans

-- what a switch is to do with a packet that waits
pub packet_plan : (s p : ℕ) (packet : Packet) (shared : Shared) (switches : List State) (state : State) (planned : Planned) → IsFirst (Pkt s p) (item.Packet packet) shared → slice_get switches s ≡ Some state → planned_step state planned ≡ received state p packet → CanCount state planned.counts → IsValidOuts planned.outs → length planned.outs.up + length planned.outs.out < 2 ^ 32 → (it : Item) × IsFirst (Pkt s p) it shared × IsPlanFor (slice_get switches s) (Pkt s p) it planned
packet_plan s p packet shared switches state planned first at step fits valid few = (item.Packet packet, first, (state, at, record { step = step; fits = fits; valid = valid; few = few }))

-- ---- what a switch keeps

-- the laws of a step: the switch has the number and the ports that it had, and its clock goes on at a tick alone
pub record Keeps : Type 0 where
  pub message : (s : State) (m : Message) → IsAt s.clock s (handled s m).state
  pub packet : (s : State) (in_port : ℕ) (packet : Packet) → IsAt s.clock s (received s in_port packet).state
  pub notice : (s : State) (notice : Notice) → IsAt (time_after s notice) s (noticed s notice).state

-- no time passes
at_once : (before after : State) → IsAt before.clock before after → IsAt (before.clock + 0) before after
at_once before after h = record { number = h.number; ports = h.ports; clock = let clock = h.clock in omega arith }

at_notice : (state : State) (notice : Notice) → Keeps → IsAt (state.clock + seconds_of (item.Notice notice)) state (noticed state notice).state
at_notice state (Tick seconds) keeps = keeps.notice state (Tick seconds)
at_notice state (Port port down) keeps = at_once state (noticed state (Port port down)).state (keeps.notice state (Port port down))
at_notice state (Join down) keeps = at_once state (noticed state (Join down)).state (keeps.notice state (Join down))

-- the switch after a step with an item of one of its pools
step_at : (ports : List ℕ) (name : PoolName) (s : ℕ) (it : Item) (state : State) → Keeps → switch_of name ≡ Some s → IsItemOf ports name it → IsAt (state.clock + seconds_of it) state (switch_step state name it).state
step_at ports (Ctl t) s (item.Message message) state keeps own kind = at_once state (handled state message).state (keeps.message state message)
step_at ports (Pkt t p) s (item.Packet packet) state keeps own kind = at_once state (received state p packet).state (keeps.packet state p packet)
step_at ports (Note t) s (item.Notice notice) state keeps own kind = at_notice state notice keeps
step_at ports (Ctl t) s _ state keeps own kind = absurd kind
step_at ports (Pkt t p) s _ state keeps own kind = absurd kind
step_at ports (Note t) s _ state keeps own kind = absurd kind
step_at ports _ s it state keeps own kind = absurd cc

-- ---- commands

-- a notice that waits at a switch is one that it has room for
notice_fits : (ports : List ℕ) (s number : ℕ) (state : State) (notice : Notice) (shared : Shared) → IsSwitchOf ports shared s state → shared.inputs ≤ 4294 → IsItemOf ports (Note s) (item.Notice notice) → first_item (Note s) shared ≡ Some (number, item.Notice notice) → HasRoomFor state notice
notice_fits ports s number state (Tick seconds) shared fits few kind first =
    let waits = seconds_taken s number (item.Notice (Tick seconds)) shared first in
    let clock = fits.clock in
    omega arith
notice_fits ports s number state (Port port down) shared fits few kind first = (kind.0, subst (λ (most : ℕ). port ≤ most) (sym fits.width) kind.1)
notice_fits ports s number state (Join down) shared fits few kind first = tt

-- a command that is the first item of a pool is one that the switch can take
can_take : (ports : List ℕ) (name : PoolName) (s number : ℕ) (it : Item) (state : State) (shared : Shared) → switch_of name ≡ Some s → IsSwitchOf ports shared s state → shared.inputs ≤ 4294 → IsItemOf ports name it → first_item name shared ≡ Some (number, it) → IsCommand name it → CanTake state it
can_take ports (Ctl t) s number (item.Message message) state shared own fits few kind first command = kind
can_take ports (Note t) s number (item.Notice notice) state shared own fits few kind first command =
    notice_fits ports t number state notice shared (subst (λ (n : ℕ). IsSwitchOf ports shared n state) (sym (same_Some t s own)) fits) few kind first
can_take ports _ s number _ state shared own fits few kind first command = absurd command

-- what a command does is the switch's step with it
commanded_step : (name : PoolName) (it : Item) (state : State) → IsCommand name it → commanded state it ≡ switch_step state name it
commanded_step (Ctl t) (item.Message message) state command = refl
commanded_step (Note t) (item.Notice notice) state command = refl
commanded_step _ _ state command = absurd command

-- the laws of what a command sends
pub record Tells : Type 0 where
  pub message : (s : State) (m : Message) → is_packet_out m ≡ false → (length (handled s m).up ≤ max 1 (length s.table)) × ((handled s m).out ≡ [])
  pub notice : (s : State) (notice : Notice) → (length (noticed s notice).up ≤ max 1 (length s.table)) × ((noticed s notice).out ≡ [])

command_tells : (name : PoolName) (it : Item) (state : State) → Tells → IsCommand name it → (length (switch_step state name it).up ≤ max 1 (length state.table)) × ((switch_step state name it).out ≡ [])
command_tells (Ctl t) (item.Message message) state tells command = tells.message state message command
command_tells (Note t) (item.Notice notice) state tells command = tells.notice state notice
command_tells _ _ state tells command = absurd command

-- ---- what the world becomes

-- A switch takes the first item of a pool: the item, the switch as it was, and that the step is its step with that item.
pub record Takes (name : PoolName) (s : ℕ) (shared : Shared) (switches : List State) (step : Step) : Type 0 where
  pub number : ℕ
  pub what : Item
  pub before : State
  pub own : switch_of name ≡ Some s
  pub first : first_item name shared ≡ Some (number, what)
  pub there : slice_get switches s ≡ Some before
  pub steps : step ≡ switch_step before name what

module _ {C : Type 0} (react : C → UpItem → Reaction C) where
  -- the pool's actor is the switch
  acted_switch : (topology : Topology) (name : PoolName) (it : Item) (s : ℕ) (world : Situation C) → switch_of name ≡ Some s → acted react topology name it world ≡ at_switch react topology name it s world
  acted_switch topology (Ctl t) it s world own = ap (λ (n : ℕ). at_switch react topology (Ctl t) it n world) (same_Some t s own)
  acted_switch topology (Pkt t p) it s world own = ap (λ (n : ℕ). at_switch react topology (Pkt t p) it n world) (same_Some t s own)
  acted_switch topology (Note t) it s world own = ap (λ (n : ℕ). at_switch react topology (Note t) it n world) (same_Some t s own)
  acted_switch topology _ it s world own = absurd cc

  with_first : (topology : Topology) (name : PoolName) (s : ℕ) (step : Step) (world : Situation C) → Takes name s world.shared world.switches step → with_item react topology name (first_item name world.shared) world ≡ by_switch react topology s step (record world { shared = taken name world.shared })
  with_first topology name s step world takes =
      let after : Situation C = record world { shared = taken name world.shared } in
      ap (λ (head : Option (ℕ × Item)). with_item react topology name head world) takes.first
      ∙ acted_switch topology name takes.what s after takes.own
      ∙ ap (λ (found : Option State). option_map_or (λ (state : State). by_switch react topology s (switch_step state name takes.what) after) found after) takes.there
      ∙ ap (λ (step : Step). by_switch react topology s step after) (sym takes.steps)

  -- what was done is what the item does
  pub taken_by : (topology : Topology) (name : PoolName) (s : ℕ) (step : Step) (world : Situation C) (shared : Shared) (switches : List State) → Takes name s world.shared world.switches step → shared ≡ sent_by topology s step (taken name world.shared) → switches ≡ slice_set world.switches s step.state → ◌≡◌ {A = Situation C} (record { shared = shared; switches = switches; controllers = world.controllers }) (with_item react topology name (first_item name world.shared) world)
  taken_by topology name s step world shared switches takes sent written =
      ap (λ (shared : Shared). record { shared = shared; switches = switches; controllers = world.controllers }) sent
      ∙ ap (λ (switches : List State). record { shared = sent_by topology s step (taken name world.shared); switches = switches; controllers = world.controllers }) written
      ∙ sym (with_first topology name s step world takes)

  -- and the world still fits
  pub fits_taken : (policies : C → ℕ) (setup : Setup C) (name : PoolName) (s : ℕ) (step : Step) (world after : Situation C) → Fits policies setup world → Keeps → Takes name s world.shared world.switches step → All IsValidMessage step.up → All (λ emitted. IsValidPacket emitted.1) step.out → length step.up + length step.out < 2 ^ 32 → after ≡ with_item react setup.topology name (first_item name world.shared) world → Fits policies setup (counted_world 0 after)
  fits_taken policies setup name s step world after fits keeps takes up out few is =
      let kind = item_kind setup.topology (length setup.controllers) name takes.number takes.what world.shared fits.shared takes.first in
      let time : IsAt (takes.before.clock + seconds_of takes.what) takes.before step.state = subst (λ (step : Step). IsAt (takes.before.clock + seconds_of takes.what) takes.before step.state) (sym takes.steps) (step_at setup.topology.ports name s takes.what takes.before keeps takes.own kind) in
      subst (λ (world : Situation C). Fits policies setup (counted_world 0 world)) (sym (is ∙ with_first setup.topology name s step world takes))
      (fits_by_switch policies react setup name s takes.number takes.what takes.before step world fits takes.own takes.first takes.there (record { state = time; up = up; out = out; few = few }))

  -- the same where it was done on the parts of the world
  pub done : (topology : Topology) (name : PoolName) (s at : ℕ) (step : Step) (world inside : Situation C) (shared : Shared) (state : State) → inside ≡ world → at ≡ s → Takes name s world.shared world.switches step → shared ≡ sent_by topology s step (taken name inside.shared) → state ≡ step.state → ◌≡◌ {A = Situation C} (record { shared = shared; switches = slice_set inside.switches at state; controllers = inside.controllers }) (with_item react topology name (first_item name world.shared) world)
  done topology name s at step world inside shared state same here takes sent is =
      subst (λ (w : Situation C). ◌≡◌ {A = Situation C} (record { shared = shared; switches = slice_set w.switches at state; controllers = w.controllers }) (with_item react topology name (first_item name world.shared) world)) (sym same)
      (taken_by topology name s step world shared (slice_set world.switches at state) takes (sent ∙ ap (λ (w : Situation C). sent_by topology s step (taken name w.shared)) same)
      (ap (λ (n : ℕ). slice_set world.switches n state) here ∙ ap (slice_set world.switches s) is))

-- ---- a plan that is carried out

-- the plan for the first item of a pool
pub record Planning (name : PoolName) (s : ℕ) (shared : Shared) (switches : List State) (planned : Planned) : Type 0 where
  pub state : State
  pub there : slice_get switches s ≡ Some state
  pub takes : Takes name s shared switches (planned_step state planned)
  pub valid : IsValidOuts planned.outs
  pub few : length planned.outs.up + length planned.outs.out < 2 ^ 32

pub planning : (name : PoolName) (s : ℕ) (shared : Shared) (switches : List State) (planned : Planned) → switch_of name ≡ Some s → (it : Item) × IsFirst name it shared × IsPlanFor (slice_get switches s) name it planned → Planning name s shared switches planned
planning name s shared switches planned own (it, (number, first), (state, at, plan)) = record {
  state = state;
  there = at;
  takes = record { number = number; what = it; before = state; own = own; first = first; there = at; steps = plan.step };
  valid = plan.valid;
  few = plan.few;
}

-- the pools can number what is sent
pub can_number_sent : (topology : Topology) (controllers s : ℕ) (status : Status) (shared : Shared) (pools : Named) (up : List Message) (out : List (ℕ × Packet)) (mail : Mail) → IsShared topology controllers shared → shared.events < 2 ^ 31 → pools ≡ shared.pools → mail ≡ mail_up topology status s up ++ mail_out topology status s out → length up + length out < 2 ^ 32 → CanNumber (length mail) pools
can_number_sent topology controllers s status shared pools up out mail fits events same is few =
    let all = length-append (mail_up topology status s up) (mail_out topology status s out) in
    let one = length_up topology status s up in
    let two = length_out topology status s out in
    let long : length mail ≡ length (mail_up topology status s up ++ mail_out topology status s out) = ap length is in
    let below : length mail < 2 ^ 32 = omega arith in
    subst (CanNumber (length mail)) (sym same) (can_number topology controllers (length mail) shared fits events below)

-- something stands at a place in both lists
pub place_within : {A : Type 0} (inside list : List A) (at s : ℕ) → inside ≡ list → at ≡ s → s < length list → at < length inside
place_within {A = A} inside list at s same here within = subst (λ (n : ℕ). n < length inside) (sym here) (subst (λ (xs : List A). s < length xs) (sym same) within)

pub same_state : {A : Type 0} (inside list : List A) (at s : ℕ) (one other : A) → inside ≡ list → at ≡ s → slice_get inside at ≡ Some one → slice_get list s ≡ Some other → one ≡ other
same_state {A = A} inside list at s one other same here first second =
    same_Some one other (sym first ∙ ap (λ (xs : List A). slice_get xs at) same ∙ ap (slice_get list) here ∙ second)

-- the state that was read stands at its place
pub stands : {A : Type 0} (items list : List A) (at s : ℕ) (one : A) → items ≡ list → at ≡ s → s < length list → one ≡ get_or items at one → slice_get list s ≡ Some one
stands {A = A} items list at s one same here within is =
    slice_get_read list (length list) s one refl within (is ∙ ap (λ (xs : List A). get_or xs at one) same ∙ ap (λ (n : ℕ). get_or list n one) here)

-- ---- a command that is taken

-- the switch of a command is one of the network
pub command_within : (topology : Topology) (controllers : ℕ) (name : PoolName) (s : ℕ) (shared : Shared) → IsShared topology controllers shared → switch_of name ≡ Some s → (it : Item) × IsFirst name it shared × IsCommand name it → s < length topology.ports
command_within topology controllers name s shared fits own (it, (number, first), command) = switch_there topology controllers name s number it shared fits own first

-- the first item is the command
is_command : (name : PoolName) (number : ℕ) (it : Item) (shared : Shared) → (other : Item) × IsFirst name other shared × IsCommand name other → first_item name shared ≡ Some (number, it) → IsCommand name it
is_command name number it shared (other, (n, first), command) found = subst (IsCommand name) (some_pair_parts n number other it (sym first ∙ found)).1 command

-- What a switch takes from a pool, and the switch as it was then.
pub record Commanding (name : PoolName) (s number : ℕ) (it : Item) (before : State) (shared : Shared) (switches : List State) : Type 0 where
  pub command : IsCommand name it
  pub first : first_item name shared ≡ Some (number, it)
  pub there : slice_get switches s ≡ Some before
  pub can : CanTake before it

pub commanding : {C : Type 0} (policies : C → ℕ) (setup : Setup C) (world inside : Situation C) (name : PoolName) (s at number : ℕ) (it : Item) (before : State) (pools : Named) → Fits policies setup world → switch_of name ≡ Some s → (other : Item) × IsFirst name other world.shared × IsCommand name other → inside ≡ world → at ≡ s → pools ≡ inside.shared.pools → Some (number, it) ≡ option_and_then head_of (pool_of name pools) → slice_get inside.switches at ≡ Some before → Commanding name s number it before world.shared world.switches
commanding {C = C} policies setup world inside name s at number it before pools fits own item same here kept head found =
    let all : pools ≡ world.shared.pools = kept ∙ ap (λ (w : Situation C). w.shared.pools) same in
    let first : first_item name world.shared ≡ Some (number, it) = sym (head ∙ ap (λ (pools : Named). option_and_then head_of (pool_of name pools)) all) in
    let there : slice_get world.switches s ≡ Some before = sym (ap (slice_get world.switches) here) ∙ ap (λ (w : Situation C). slice_get w.switches at) (sym same) ∙ found in
    let command = is_command name number it world.shared item first in
    let kind = item_kind setup.topology (length setup.controllers) name number it world.shared fits.shared first in
    record {
      command = command;
      first = first;
      there = there;
      can = can_take setup.topology.ports name s number it before world.shared own (fits.each_switch s before there) fits.inputs kind first command;
    }

-- it sends no packet, and few messages
pub told : (name : PoolName) (it : Item) (before : State) (step : Step) → Tells → IsCommand name it → commanded before it ≡ step → (length step.up ≤ max 1 (length before.table)) × (step.out ≡ [])
told name it before step tells command is =
    subst (λ (step : Step). (length step.up ≤ max 1 (length before.table)) × (step.out ≡ [])) (sym (commanded_step name it before command) ∙ is) (command_tells name it before tells command)

-- the switch takes its step with it
pub takes_command : (name : PoolName) (s number : ℕ) (it : Item) (before : State) (step : Step) (shared : Shared) (switches : List State) → switch_of name ≡ Some s → Commanding name s number it before shared switches → commanded before it ≡ step → Takes name s shared switches step
takes_command name s number it before step shared switches own taken is = record {
  number = number;
  what = it;
  before = before;
  own = own;
  first = taken.first;
  there = taken.there;
  steps = sym is ∙ commanded_step name it before taken.command;
}

-- the state that was read is the one that is lent
pub read_state : (items inside : List State) (at : ℕ) (one other : State) → items ≡ inside → one ≡ get_or items at one → slice_get inside at ≡ Some other → one ≡ other
read_state items inside at one other same is found = is ∙ ap (λ (xs : List State). get_or xs at one) same ∙ get_or_from_slice_get inside at other one found

-- the pools can number what is told
pub can_number_told : (topology : Topology) (controllers more : ℕ) (name : PoolName) (shared : Shared) (pools before after : Named) → IsShared topology controllers shared → shared.events < 2 ^ 31 → more < 2 ^ 32 → pools ≡ shared.pools → before ≡ pools → after ≡ changed name rest_of before → CanNumber more after
can_number_told topology controllers more name shared pools before after fits events few same kept taking =
    subst (CanNumber more) (sym (taking ∙ ap (changed name rest_of) (kept ∙ same))) (can_number topology controllers more (taken name shared) (shared_taken topology controllers name shared fits) events few)

-- where no packet is sent, the messages alone come to the pools
pub sent_up : (topology : Topology) (s : ℕ) (step : Step) (shared : Shared) (up : Option PoolName) (before after : Named) → step.out ≡ [] → up ≡ up_from topology shared.status s → after ≡ with_mail (filter_map (λ message. addressed up (item.Message message)) step.up) before → before ≡ shared.pools → record shared { pools = after } ≡ sent_by topology s step shared
sent_up topology s step shared up before after none to is same =
    let mail = mail_up topology shared.status s step.up in
    let all : after ≡ with_mail (mail ++ mail_out topology shared.status s step.out) shared.pools =
    is
    ∙ ap (λ (up : Option PoolName). with_mail (filter_map (λ message. addressed up (item.Message message)) step.up) before) to
    ∙ ap (with_mail mail) same
    ∙ ap (λ (mail : Mail). with_mail mail shared.pools) (sym (append-nil mail))
    ∙ ap (λ (out : List (ℕ × Packet)). with_mail (mail ++ mail_out topology shared.status s out) shared.pools) (sym none) in
    ap (λ (pools : Named). record shared { pools = pools }) all

-- a switch that took nothing is as it was, and so is the world
pub undone : {C : Type 0} (world inside : Situation C) (shared : Shared) (at : ℕ) (before after : State) → inside ≡ world → shared ≡ inside.shared → slice_get inside.switches at ≡ Some before → after ≡ before → ◌≡◌ {A = Situation C} (record { shared = shared; switches = slice_set inside.switches at after; controllers = inside.controllers }) world
undone {C = C} world inside shared at before after same kept found is =
    let list : slice_set inside.switches at after ≡ inside.switches = ap (slice_set inside.switches at) is ∙ set_same inside.switches at before found in
    ap (λ (shared : Shared). record { shared = shared; switches = slice_set inside.switches at after; controllers = inside.controllers }) kept
    ∙ ap (λ (switches : List State). record inside { switches = switches }) list
    ∙ same

-- and where a controller is as it was
pub unheard : {C : Type 0} (world inside : Situation C) (shared : Shared) (at : ℕ) (before after : C) → inside ≡ world → shared ≡ inside.shared → slice_get inside.controllers at ≡ Some before → after ≡ before → ◌≡◌ {A = Situation C} (record { shared = shared; switches = inside.switches; controllers = slice_set inside.controllers at after }) world
unheard {C = C} world inside shared at before after same kept found is =
    let list : slice_set inside.controllers at after ≡ inside.controllers = ap (slice_set inside.controllers at) is ∙ set_same inside.controllers at before found in
    ap (λ (shared : Shared). record { shared = shared; switches = inside.switches; controllers = slice_set inside.controllers at after }) kept
    ∙ ap (λ (controllers : List C). record inside { controllers = controllers }) list
    ∙ same

-- what holds, holds after an Err
pub on_err : {T E P : Type 0} (r : Result T E) → P → OnErr r P
on_err (Ok x) p = tt
on_err (Err e) p = p
