-- The world that a setup starts with fits it, and each step of an actor keeps that.
use Rattle.std.proofs.Common.{◌≡◌, ◌∙◌, ℕ, ◌+◌, ◌<◌, ◌≤◌, ◌^◌, List, [], ◌++◌, length, map, slice_get, slice_set, Some, sum, All, arith, inl, inr, refl, subst, subst₂, sym}
use Rattle.std.proofs.lemmas.List.{length-append, length-map, length-set}
use Rattle.std.proofs.lemmas.List.Elements.{All-append, All-map, All-nil, All-weaker}
use Rattle.std.proofs.lemmas.Option.{same_Some}
use Rattle.listed.specs.Lists.{all_at, all_changed, length_changed}
use Rattle.of10_match.specs.Packet.{IsValidPacket}
use Rattle.of10_messages.specs.Valid.{IsValidMessage}
use Rattle.controller_api.specs.Reaction.{AreValidMessages, CountsPolicies, Reaction}
use Rattle.controller_api.specs.declared.item.UpItem.{UpItem}
use Rattle.controller_api.specs.declared.item.UpItem.TheVariants as heard
use Rattle.machine_setup.specs.Setup.{IsValidSetup}
use Rattle.machine_setup.specs.declared.setup.Setup.{Setup}
use Rattle.message_pools.specs.declared.item.Item.{Item}
use Rattle.message_pools.specs.declared.item.Item.TheVariants as item
use Rattle.pool_book.specs.Names.{names, taker}
use Rattle.pool_book.specs.Pools.{empty_pools}
use Rattle.pool_book.specs.declared.actor.Actor.TheVariants.{Controller}
use Rattle.pool_book.specs.declared.name.PoolName.{PoolName}
use Rattle.pool_book.specs.declared.name.PoolName.TheVariants.{Ctl, Pkt, Note, App, Admin, Recv}
use Rattle.switch_core.specs.State.{IsAt}
use Rattle.switch_core.specs.Step.{Step}
use Rattle.switch_core.specs.declared.state.State.{State}
use Rattle.event_world.specs.Fits.{Fits, IsDeliverable, IsItemOf, IsSwitchOf, seconds_of, switch_of, waiting_policies, waiting_seconds}
use Rattle.event_world.specs.Mail.{Mail, Shared, mail_down, mail_out, mail_up}
use Rattle.event_world.specs.World.{Situation, by_controller, by_switch, counted, counted_world, delivered, first_item, first_joins, heard_by, received_by, start, taken}
use Rattle.event_world.proofs.Delivered.{policies_delivered, policies_left, policies_taken, seconds_delivered, seconds_left, seconds_taken, shared_delivered, shared_taken}
use Rattle.event_world.proofs.Lists.{get_set}
use Rattle.event_world.proofs.Sent.{IsSent, IsSilent, length_down, length_out, length_up, mail_down_sent, mail_out_sent, mail_up_sent, no_policies, no_seconds}
use Rattle.event_world.proofs.Starting.{held_empty, joins_silent, length_switches, shared_start, started_switch}
use Rattle.event_world.proofs.Within.{item_kind}

-- ---- what the first item counts

-- an item of these pools is no notice
message_seconds : (ports : List ℕ) (s : ℕ) (item : Item) → IsItemOf ports (Ctl s) item → seconds_of item ≡ 0
message_seconds ports s (item.Message message) h = refl
message_seconds ports s _ h = absurd h

packet_seconds : (ports : List ℕ) (s p : ℕ) (item : Item) → IsItemOf ports (Pkt s p) item → seconds_of item ≡ 0
packet_seconds ports s p (item.Packet packet) h = refl
packet_seconds ports s p _ h = absurd h

-- once a switch has taken an item, the seconds of the item no longer wait
seconds_of_first : (ports : List ℕ) (s number : ℕ) (name : PoolName) (item : Item) (shared : Shared) → switch_of name ≡ Some s → IsItemOf ports name item → first_item name shared ≡ Some (number, item) → waiting_seconds s (taken name shared).pools + seconds_of item ≤ waiting_seconds s shared.pools
seconds_of_first ports s number (Ctl t) item shared at kind first = let none = message_seconds ports t item kind in let left = seconds_left s (Ctl t) shared in omega arith
seconds_of_first ports s number (Pkt t p) item shared at kind first = let none = packet_seconds ports t p item kind in let left = seconds_left s (Pkt t p) shared in omega arith
seconds_of_first ports s number (Note t) item shared at kind first =
    subst (λ (n : ℕ). waiting_seconds n (taken (Note t) shared).pools + seconds_of item ≤ waiting_seconds n shared.pools) (same_Some t s at) (let all = seconds_taken t number item shared first in omega arith)
seconds_of_first ports s number _ item shared at kind first = absurd cc

-- once a controller has heard an item, it has no more policies than it had with those that it was to hear
policies_of_first : (c number before after inputs : ℕ) (name : PoolName) (item : Item) (news : UpItem) (shared : Shared) → taker name ≡ Controller c → first_item name shared ≡ Some (number, item) → heard_by name item ≡ Some news → CountsPolicies news before after → before + waiting_policies c shared.pools ≤ inputs → after + waiting_policies c (taken name shared).pools ≤ inputs
policies_of_first c number before after inputs (App d s) (item.Message message) news shared own first hears counts few =
    let same : after ≡ before = subst (λ (h : UpItem). CountsPolicies h before after) (sym (same_Some (heard.FromSwitch s message) news hears)) counts in
    let left = policies_left c (App d s) shared in
    omega arith
policies_of_first c number before after inputs (App d s) item.Gone news shared own first hears counts few =
    let same : after ≡ before = subst (λ (h : UpItem). CountsPolicies h before after) (sym (same_Some (heard.Gone s) news hears)) counts in
    let left = policies_left c (App d s) shared in
    omega arith
policies_of_first c number before after inputs (Admin d) (item.Policy deny) news shared own first hears counts few =
    let one : (before ≤ after) × (after ≤ before + 1) = subst (λ (h : UpItem). CountsPolicies h before after) (sym (same_Some (heard.Policy deny) news hears)) counts in
    let equal : d ≡ c = cc in
    let here = policies_taken d number (item.Policy deny) shared first in
    let heard_here : waiting_policies c (taken (Admin d) shared).pools + 1 ≡ waiting_policies c shared.pools = subst (λ (n : ℕ). waiting_policies n (taken (Admin d) shared).pools + 1 ≡ waiting_policies n shared.pools) equal here in
    let few' = one.1 in
    omega arith
policies_of_first c number before after inputs _ _ news shared own first hears counts few = absurd cc

-- ---- a step of a switch

-- what a switch becomes and sends: it is at a time, what it sends is valid, and not too much
pub record IsStep (now : ℕ) (before : State) (step : Step) : Type 0 where
  pub state : IsAt now before step.state
  pub up : All IsValidMessage step.up
  pub out : All (λ emitted. IsValidPacket emitted.1) step.out
  pub few : length step.up + length step.out < 2 ^ 32

module _ {C : Type 0} (policies : C → ℕ) where
  -- switches and controllers fit a shared part
  record IsAround (setup : Setup C) (shared : Shared) (switches : List State) (controllers : List C) : Type 0 where
    all_switches : length switches ≡ length setup.topology.ports
    each_switch : (s : ℕ) (state : State) → slice_get switches s ≡ Some state → IsSwitchOf setup.topology.ports shared s state
    all_controllers : length controllers ≡ length setup.controllers
    each_controller : (c : ℕ) (state : C) → slice_get controllers c ≡ Some state → policies state + waiting_policies c shared.pools ≤ shared.inputs

  -- An actor takes an item and sends mail: the world fits with its switches and its controllers as they are then, if these fit
  -- where the item is taken.
  fits_sent : (setup : Setup C) (name : PoolName) (mail : Mail) (switches : List State) (controllers : List C) (world : Situation C) → Fits policies setup world → IsAround setup (taken name world.shared) switches controllers → All (IsSent setup.topology.ports world.shared.status) mail → length mail < 2 ^ 32 → Fits policies setup (record { shared = counted 0 (delivered mail (taken name world.shared)); switches = switches; controllers = controllers })
  fits_sent setup name mail switches controllers world fits around sent few =
      let ports = setup.topology.ports in
      let status = world.shared.status in
      let pools = (taken name world.shared).pools in
      let silent = All-weaker (IsSent ports status) IsSilent (λ one h. h.silent) mail sent in
      let deliverable = All-weaker (IsSent ports status) (IsDeliverable ports status) (λ one h. h.deliverable) mail sent in
      record {
        shared = shared_delivered setup.topology (length setup.controllers) 0 mail (taken name world.shared) (shared_taken setup.topology (length setup.controllers) name world.shared fits.shared) deliverable few;
        switches = around.all_switches;
        each_switch = λ s state at.
            let h = around.each_switch s state at in
            let told = seconds_delivered s mail pools in
            let none = no_seconds s mail silent in
            record { number = h.number; width = h.width; clock = let clock = h.clock in omega arith };
        controllers = around.all_controllers;
        inputs = let few = fits.inputs in omega arith;
        each_controller = λ c state at.
            let h = around.each_controller c state at in
            let told = policies_delivered c mail pools in
            let none = no_policies c mail silent in
            omega arith;
      }

  -- a switch of the world fits where an item is taken
  switch_left : (setup : Setup C) (name : PoolName) (world : Situation C) (s : ℕ) (state : State) → Fits policies setup world → slice_get world.switches s ≡ Some state → IsSwitchOf setup.topology.ports (taken name world.shared) s state
  switch_left setup name world s state fits at =
      let h = fits.each_switch s state at in
      let left = seconds_left s name world.shared in
      record { number = h.number; width = h.width; clock = let clock = h.clock in omega arith }

  -- and a controller
  controller_left : (setup : Setup C) (name : PoolName) (world : Situation C) (c : ℕ) (state : C) → Fits policies setup world → slice_get world.controllers c ≡ Some state → policies state + waiting_policies c (taken name world.shared).pools ≤ world.shared.inputs
  controller_left setup name world c state fits at = let h = fits.each_controller c state at in let left = policies_left c name world.shared in omega arith

  -- a switch takes an item
  pub fits_by_switch : (react : C → UpItem → Reaction C) (setup : Setup C) (name : PoolName) (s number : ℕ) (item : Item) (state : State) (step : Step) (world : Situation C) → Fits policies setup world → switch_of name ≡ Some s → first_item name world.shared ≡ Some (number, item) → slice_get world.switches s ≡ Some state → IsStep (state.clock + seconds_of item) state step → Fits policies setup (counted_world 0 (by_switch react setup.topology s step (record world { shared = taken name world.shared })))
  fits_by_switch react setup name s number item state step world fits own first at step_fits =
      let ports = setup.topology.ports in
      let status = world.shared.status in
      let up = mail_up setup.topology status s step.up in
      let out = mail_out setup.topology status s step.out in
      let sent = All-append (IsSent ports status) up out (mail_up_sent setup.topology status s step.up step_fits.up) (mail_out_sent setup.topology status s step.out step_fits.out) in
      let kind = item_kind setup.topology (length setup.controllers) name number item world.shared fits.shared first in
      let seconds = seconds_of_first ports s number name item world.shared own kind first in
      let around : IsAround setup (taken name world.shared) (slice_set world.switches s step.state) world.controllers = record {
        all_switches = length-set world.switches s step.state ∙ fits.switches;
        each_switch = λ t after there. elim (get_set world.switches s step.state t after there) [
          | inl before ↦ switch_left setup name world t after fits before
          | inr h ↦ subst₂ (λ (t : ℕ) (after : State). IsSwitchOf ports (taken name world.shared) t after) (sym h.0) (sym h.1) (record {
            number = step_fits.state.number ∙ (fits.each_switch s state at).number;
            width = step_fits.state.ports ∙ (fits.each_switch s state at).width;
            clock = let clock = (fits.each_switch s state at).clock in let now = step_fits.state.clock in omega arith;
          })
        ];
        all_controllers = fits.controllers;
        each_controller = λ c after there. controller_left setup name world c after fits there;
      } in
      fits_sent setup name (up ++ out) (slice_set world.switches s step.state) world.controllers world fits around sent
      (let few = step_fits.few in let all = length-append up out in let one = length_up setup.topology status s step.up in let two = length_out setup.topology status s step.out in omega arith)

  -- a controller hears an item
  pub fits_by_controller : (react : C → UpItem → Reaction C) (setup : Setup C) (name : PoolName) (c number : ℕ) (item : Item) (news : UpItem) (state : C) (reaction : Reaction C) (world : Situation C) → Fits policies setup world → taker name ≡ Controller c → first_item name world.shared ≡ Some (number, item) → heard_by name item ≡ Some news → slice_get world.controllers c ≡ Some state → AreValidMessages reaction.sent → length reaction.sent < 2 ^ 32 → CountsPolicies news (policies state) (policies reaction.state) → Fits policies setup (counted_world 0 (by_controller react setup.topology c reaction (record world { shared = taken name world.shared })))
  fits_by_controller react setup name c number item news state reaction world fits own first hears at valid few counts =
      let ports = setup.topology.ports in
      let status = world.shared.status in
      let mail = mail_down setup.topology status c reaction.sent in
      let around : IsAround setup (taken name world.shared) world.switches (slice_set world.controllers c reaction.state) = record {
        all_switches = fits.switches;
        each_switch = λ s after there. switch_left setup name world s after fits there;
        all_controllers = length-set world.controllers c reaction.state ∙ fits.controllers;
        each_controller = λ d after there. elim (get_set world.controllers c reaction.state d after there) [
          | inl before ↦ controller_left setup name world d after fits before
          | inr h ↦ subst₂ (λ (d : ℕ) (after : C). policies after + waiting_policies d (taken name world.shared).pools ≤ world.shared.inputs) (sym h.0) (sym h.1)
              (policies_of_first c number (policies state) (policies reaction.state) world.shared.inputs name item news world.shared own first hears counts (fits.each_controller c state at))
        ];
      } in
      fits_sent setup name mail world.switches (slice_set world.controllers c reaction.state) world fits around (mail_down_sent setup.topology status c reaction.sent valid)
      (let one = length_down setup.topology status c reaction.sent in omega arith)

  -- a host takes a packet
  pub fits_by_host : (setup : Setup C) (h : ℕ) (world : Situation C) → Fits policies setup world → Fits policies setup (counted_world 0 (record world { shared = received_by h (taken (Recv h) world.shared) }))
  fits_by_host setup h world fits =
      let shared = shared_delivered setup.topology (length setup.controllers) 0 [] (taken (Recv h) world.shared) (shared_taken setup.topology (length setup.controllers) (Recv h) world.shared fits.shared) (All-nil (IsDeliverable setup.topology.ports world.shared.status)) (omega arith) in
      record {
        shared = record {
          status = shared.status;
          received = length_changed h (λ count. count + 1) world.shared.received ∙ shared.received;
          counts =
              let events = world.shared.events in
              all_changed (λ (count : ℕ). count ≤ events) (λ count. count ≤ events + 1) h (λ count. count + 1) world.shared.received fits.shared.counts (λ count few. omega arith) (λ count at few. omega arith);
          names = shared.names;
          pools = shared.pools;
        };
        switches = fits.switches;
        each_switch = λ s state at.
            let left = switch_left setup (Recv h) world s state fits at in
            record { number = left.number; width = left.width; clock = let clock = left.clock in omega arith };
        controllers = fits.controllers;
        inputs = let few = fits.inputs in omega arith;
        each_controller = λ c state at. let left = controller_left setup (Recv h) world c state fits at in omega arith;
      }

  -- ---- the start

  -- a controller has no policy in the state that it starts with
  first_policies : (first : C → C) (controllers : List C) (c : ℕ) (state : C) → All (λ c. policies (first c) ≡ 0) controllers → slice_get (map first controllers) c ≡ Some state → policies state ≡ 0
  first_policies first controllers c state none at = all_at (λ (state : C). policies state ≡ 0) (map first controllers) c state (All-map (λ (state : C). policies state ≡ 0) first controllers none) at

  -- the world that a setup starts with
  pub fits_start : (first : C → C) (setup : Setup C) → IsValidSetup setup → All (λ c. policies (first c) ≡ 0) setup.controllers → Fits policies setup (start first setup)
  fits_start first setup valid none =
      let topology = setup.topology in
      let joins = first_joins topology.owner in
      let all = names topology.ports (length setup.controllers) (length topology.hosts) in
      let before = empty_pools topology.ports (length setup.controllers) (length topology.hosts) in
      let silent = joins_silent 0 topology.owner in
      record {
        shared = shared_start topology (length setup.controllers) valid.network;
        switches = length_switches topology.ports setup.presets valid.starts.lists;
        each_switch = λ s state at.
            let h = started_switch topology.ports setup.presets s state at in
            let told = seconds_delivered s joins before in
            let silence = no_seconds s joins silent in
            let nothing : waiting_seconds s before ≡ 0 = held_empty (λ queue. sum (map seconds_of queue.items)) (Note s) all refl in
            record { number = h.number; width = h.width; clock = let clock = h.clock in omega arith };
        controllers = length-map setup.controllers first;
        inputs = omega arith;
        each_controller = λ c state at.
            let has = first_policies first setup.controllers c state none at in
            let told = policies_delivered c joins before in
            let silence = no_policies c joins silent in
            let nothing : waiting_policies c before ≡ 0 = held_empty (λ queue. length queue.items) (Admin c) all refl in
            omega arith;
      }
