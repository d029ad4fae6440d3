-- An input keeps a world one of its setup, and brings few items.
use Rattle.std.proofs.Common.{◌≡◌, ℕ, ◌+◌, ◌^◌, ◌<◌, ◌≤◌, ◌&&◌, ◌⊎◌, List, [], ◌∷◌, length, map, filter, slice_get, slice_set, slice_index, sum, All, Option, Some, None, Bool, true, false, not, is_none, option_and_then, if◌then◌else◌, inl, inr, refl, sym, ap, ◌∙◌, subst, arith}
use Rattle.std.specs.List.{enumerate_from, list_any}
use Rattle.std.specs.Option.{option_map_or}
use Rattle.std.proofs.lemmas.Bool.{cases_lt, cond_both}
use Rattle.std.proofs.lemmas.List.{get_or_past, length-append, length-map, length-set}
use Rattle.std.proofs.lemmas.List.Elements.{All-nil}
use Rattle.std.proofs.lemmas.List.FromFn.{length-enumerate_from, length-range_with_len}
use Rattle.std.proofs.lemmas.List.Sums.{count_by-le-length, length-filter}
use Rattle.controller_api.specs.Reaction.{Reaction}
use Rattle.controller_api.specs.declared.item.UpItem.{UpItem}
use Rattle.message_pools.specs.Queue.{Queue, flushed}
use Rattle.message_pools.specs.declared.item.Item.TheVariants as item
use Rattle.of10_match.specs.declared.packet.Packet.{Packet}
use Rattle.of10_messages.specs.declared.notice.Notice.TheVariants.{Tick, Port, Join}
use Rattle.machine_setup.specs.Setup.{IsInput, IsValidSetup}
use Rattle.machine_setup.specs.declared.script.Input.{Input}
use Rattle.machine_setup.specs.declared.script.Input.TheVariants.{Inject, LinkDown, LinkUp, SwitchFail, SwitchUp, ControlDown, ControlUp, HostMove, Policy, Seconds}
use Rattle.machine_setup.specs.declared.setup.Setup.{Setup}
use Rattle.pool_book.specs.Pools.{Named}
use Rattle.pool_book.specs.declared.name.PoolName.{PoolName}
use Rattle.pool_book.specs.declared.name.PoolName.TheVariants.{Admin, App, Note, Pkt}
use Rattle.switch_core.specs.State.{fresh}
use Rattle.switch_core.specs.declared.state.State.{State}
use Rattle.topology.specs.Network.{far_end}
use Rattle.topology.specs.Status.{IsStatus, host_at, is_up}
use Rattle.topology.specs.declared.network.Topology.{Topology}
use Rattle.topology.specs.declared.status.Status.{Status}
use Rattle.event_world.proofs.Delivered.{policies_delivered, seconds_delivered, shared_delivered}
use Rattle.event_world.proofs.EffectFits.{effect_fits}
use Rattle.event_world.proofs.Flushed.{all_without, measure_without, names_without, quiet_at}
use Rattle.event_world.proofs.Lists.{get_set, length_given}
use Rattle.event_world.specs.Fits.{Fits, IsItemOf, IsPool, IsShared, IsSwitchOf, seconds_of, switch_of, waiting_policies, waiting_seconds}
use Rattle.event_world.specs.Inputs.{channel_down, channel_up, down_mask, effect, ends_at, fails, has_owner, host_moves, injected, is_open, joins, link_down, link_up, no_effect, pools_of, ports_of, seconds_pass, sends_only, switch_comes, switch_fails, tells, tells_gone, tells_neighbours}
use Rattle.event_world.specs.Mail.{Mail, Shared, owner_of}
use Rattle.event_world.specs.World.{Situation, counted, counted_world, delivered, with_input, without_all}
use Rattle.event_world.specs.declared.effect.Effect.{Effect}

-- ---- the shared part

-- a shared part with another status, and some pools flushed
abbrev cleared : Status → List PoolName → Shared → Shared
cleared status names shared = record shared { status = status; pools = without_all names shared.pools }

-- a flushed pool is still one
pool_flushed : (ports : List ℕ) (status : Status) (events : ℕ) (pool : PoolName × Queue) → IsPool ports status events pool → IsPool ports status events (pool.0, flushed pool.1)
pool_flushed ports status events pool is = record { items = All-nil (IsItemOf ports pool.0); numbers = let n = is.numbers in omega arith; down = λ s here down. refl }

-- where each pool of a switch that went down was flushed, the shared part is still one
shared_cleared : (topology : Topology) (controllers : ℕ) (status : Status) (names : List PoolName) (shared : Shared) → IsShared topology controllers shared → IsStatus topology status
    → ((s : ℕ) → is_up status.switch_up s ≡ false → (is_up shared.status.switch_up s ≡ false) ⊎ (names ≡ pools_of topology s))
    → IsShared topology controllers (cleared status names shared)
shared_cleared topology controllers status names shared fits is downs =
    let after = without_all names shared.pools in
    let old : All (IsPool topology.ports shared.status shared.events) after = all_without (IsPool topology.ports shared.status shared.events) (pool_flushed topology.ports shared.status shared.events) names shared.pools fits.pools in record {
      status = is;
      received = fits.received;
      counts = fits.counts;
      names = names_without names shared.pools ∙ fits.names;
      pools = λ k d lt. let pool = old k d lt in record {
        items = pool.items;
        numbers = pool.numbers;
        down = λ s here down. elim (downs s down) [
          | inl before ↦ pool.down s here before
          | inr emptied ↦ subst (λ (lost : List PoolName). All (λ pool. switch_of pool.0 ≡ Some s → pool.1.items ≡ []) (without_all lost shared.pools)) (sym emptied)
              (quiet_at topology controllers (length topology.hosts) s shared.pools fits.names) k d lt here
        ];
      };
    }

-- flushing leaves no more to be told
seconds_cleared : (s : ℕ) (names : List PoolName) (pools : Named) → waiting_seconds s (without_all names pools) ≤ waiting_seconds s pools
seconds_cleared s names pools = measure_without (λ queue. sum (map seconds_of queue.items)) (λ queue. omega arith) (Note s) names pools

policies_cleared : (c : ℕ) (names : List PoolName) (pools : Named) → waiting_policies c (without_all names pools) ≤ waiting_policies c pools
policies_cleared c names pools = measure_without (λ queue. length queue.items) (λ queue. omega arith) (Admin c) names pools

-- ---- few items

-- an effect brings far fewer items than pools have numbers for
abbrev IsFew : Effect → Type 0
IsFew change = length change.mail < 2 ^ 32

-- one thing for an option is at most one
length_option : {A B : Type 0} (f : A → B) (o : Option A) → length (option_map_or (λ x. f x ∷ []) o []) ≤ 1
length_option f None = omega arith
length_option f (Some x) = omega arith

few_neighbours : (topology : Topology) (status : Status) (s : ℕ) (down : Bool) → slice_index topology.ports s ≤ 48 → length (tells_neighbours topology status s down) ≤ 48
few_neighbours topology status s down few =
    let kept = length_given (λ (port : ℕ). option_and_then (λ far. if is_open status far then Some (tells far.1 (Port far.2 down)) else None) (far_end topology s port)) (ports_of topology s) in
    let all = length-range_with_len 1 (slice_index topology.ports s) in
    omega arith

few_joins : (topology : Topology) (status : Status) (s : ℕ) → length (joins topology status s) ≤ 1
few_joins topology status s = cond_both (is_up status.control_up s) (option_map_or (λ c. tells s (Join (down_mask topology status s)) ∷ []) (owner_of topology s) []) [] (λ (mail : Mail). length mail ≤ 1)
    (λ e. length_option (λ (c : ℕ). tells s (Join (down_mask topology status s))) (owner_of topology s)) (λ e. omega arith)

few_ends : (topology : Topology) (link : ℕ) → length (ends_at topology link) ≤ 2
few_ends topology link = two (slice_get topology.links link) where
  two : (o : Option (ℕ × ℕ × ℕ × ℕ)) → length {A = ℕ × ℕ} (option_map_or (λ ends. (ends.0, ends.1) ∷ (ends.2, ends.3) ∷ []) o []) ≤ 2
  two None = omega arith
  two (Some link) = omega arith

-- who is told is told once
few_told : (down : Bool) (ends : List (ℕ × ℕ)) → length ends ≤ 2 → length (map (λ end. tells end.0 (Port end.1 down)) ends) ≤ 2
few_told down ends two = let same = length-map ends (λ (end : ℕ × ℕ). tells end.0 (Port end.1 down)) in omega arith

few_gone : (topology : Topology) (s : ℕ) → length (tells_gone topology s) ≤ 1
few_gone topology s = length_option (λ (c : ℕ). (App c s, item.Gone)) (owner_of topology s)

few_injected : (status : Status) (packet : Packet) (place : Option (ℕ × ℕ)) → IsFew (injected status packet place)
few_injected status packet None = omega arith
few_injected status packet (Some place) = cond_both (is_up status.switch_up place.0) (sends_only status ((Pkt place.0 place.1, item.Packet packet) ∷ [])) (no_effect status) IsFew (λ e. omega arith) (λ e. omega arith)

few_down : (topology : Topology) (status : Status) (link : ℕ) → IsFew (link_down topology status link)
few_down topology status link =
    let ends = ends_at topology link in
    let test : ℕ × ℕ → Bool = λ end. is_up status.switch_up end.0 in
    let two = few_ends topology link in
    let count = length-filter test ends in
    let some = count_by-le-length test ends in
    let told = few_told true (filter test ends) (omega arith) in
    omega arith

few_up : (topology : Topology) (status : Status) (link : ℕ) → IsFew (link_up topology status link)
few_up topology status link =
    cond_both (list_any (λ (end : ℕ × ℕ). not (is_up status.switch_up end.0)) (ends_at topology link)) [] (map (λ (end : ℕ × ℕ). tells end.0 (Port end.1 false)) (ends_at topology link)) (λ (mail : Mail). length mail < 2 ^ 32)
    (λ e. omega arith) (λ e. let told = few_told false (ends_at topology link) (few_ends topology link) in omega arith)

few_fails : (topology : Topology) (status : Status) (s : ℕ) → slice_index topology.ports s ≤ 48 → IsFew (switch_fails topology status s)
few_fails topology status s few =
    let after = (switch_fails topology status s).status in
    let gone : Mail = if is_up status.control_up s then tells_gone topology s else [] in
    let one : length gone ≤ 1 = cond_both (is_up status.control_up s) (tells_gone topology s) [] (λ (mail : Mail). length mail ≤ 1) (λ e. few_gone topology s) (λ e. omega arith) in
    let told = few_neighbours topology after s true few in
    let all = length-append gone (tells_neighbours topology after s true) in
    omega arith

few_comes : (topology : Topology) (status : Status) (s : ℕ) → slice_index topology.ports s ≤ 48 → IsFew (switch_comes topology status s)
few_comes topology status s few =
    let after = (switch_comes topology status s).status in
    let one = few_joins topology after s in
    let told = few_neighbours topology after s false few in
    let all = length-append (tells_neighbours topology after s false) (joins topology after s) in
    omega arith

few_channel_down : (topology : Topology) (status : Status) (s : ℕ) → IsFew (channel_down topology status s)
few_channel_down topology status s =
    cond_both (is_up status.switch_up s) (tells_gone topology s) [] (λ (mail : Mail). length mail < 2 ^ 32) (λ e. let one = few_gone topology s in omega arith) (λ e. omega arith)

few_channel_up : (topology : Topology) (status : Status) (s : ℕ) → IsFew (channel_up topology status s)
few_channel_up topology status s =
    let after = (channel_up topology status s).status in
    cond_both (is_up status.switch_up s) (joins topology after s) [] (λ (mail : Mail). length mail < 2 ^ 32) (λ e. let one = few_joins topology after s in omega arith) (λ e. omega arith)

few_moves : (status : Status) (host : ℕ) (place : ℕ × ℕ) → IsFew (host_moves status host place)
few_moves status host place =
    cond_both (is_none (host_at status place.0 place.1)) (no_effect (record status { place = slice_set status.place host place })) (no_effect status) IsFew (λ e. omega arith) (λ e. omega arith)

few_seconds : (topology : Topology) (status : Status) (n : ℕ) → IsStatus topology status → IsFew (seconds_pass status n)
few_seconds topology status n is =
    let flags = enumerate_from 0 status.switch_up in
    let test : ℕ × Bool → Bool = λ switch. switch.1 in
    let same = length-map (filter test flags) (λ (switch : ℕ × Bool). tells switch.0 (Tick n)) in
    let count = length-filter test flags in
    let some = count_by-le-length test flags in
    let long = length-enumerate_from 0 status.switch_up in
    let switches = is.switches in
    let few = is.few_switches in
    omega arith

-- an input brings far fewer items than pools have numbers for
pub effect_few : (topology : Topology) (status : Status) (input : Input) → IsStatus topology status → ((s : ℕ) → slice_index topology.ports s ≤ 48) → length (effect topology status input).mail < 2 ^ 32
effect_few topology status (Inject host packet) is few = few_injected status packet (slice_get status.place host)
effect_few topology status (LinkDown link) is few = cond_both (is_up status.link_up link) (link_down topology status link) (no_effect status) IsFew (λ e. few_down topology status link) (λ e. omega arith)
effect_few topology status (LinkUp link) is few = cond_both (is_up status.link_up link) (no_effect status) (link_up topology status link) IsFew (λ e. omega arith) (λ e. few_up topology status link)
effect_few topology status (SwitchFail s) is few = cond_both (is_up status.switch_up s) (switch_fails topology status s) (no_effect status) IsFew (λ e. few_fails topology status s (few s)) (λ e. omega arith)
effect_few topology status (SwitchUp s) is few = cond_both (is_up status.switch_up s) (no_effect status) (switch_comes topology status s) IsFew (λ e. omega arith) (λ e. few_comes topology status s (few s))
effect_few topology status (ControlDown s) is few =
    cond_both (has_owner topology s && is_up status.control_up s) (channel_down topology status s) (no_effect status) IsFew (λ e. few_channel_down topology status s) (λ e. omega arith)
effect_few topology status (ControlUp s) is few =
    cond_both (has_owner topology s && not (is_up status.control_up s)) (channel_up topology status s) (no_effect status) IsFew (λ e. few_channel_up topology status s) (λ e. omega arith)
effect_few topology status (HostMove host s p) is few = few_moves status host (s, p)
effect_few topology status (Policy c deny) is few = omega arith
effect_few topology status (Seconds n) is few = few_seconds topology status n is

-- ---- states

-- the states after an input: a switch that fails starts anew
abbrev renewed : Topology → Option ℕ → List State → List State
renewed topology failed switches = option_map_or (λ s. slice_set switches s (fresh s (slice_index topology.ports s))) failed switches

length_renewed : (topology : Topology) (failed : Option ℕ) (switches : List State) → length (renewed topology failed switches) ≡ length switches
length_renewed topology None switches = refl
length_renewed topology (Some s) switches = length-set switches s (fresh s (slice_index topology.ports s))

-- a switch after an input: its clock with what it is still to be told of grows by at most a million
switch_after : (ports : List ℕ) (before after : Shared) (s : ℕ) (state : State) → IsSwitchOf ports before s state → waiting_seconds s after.pools ≤ waiting_seconds s before.pools + 1000000 → after.inputs ≡ before.inputs + 1 → IsSwitchOf ports after s state
switch_after ports before after s state is more count = record { number = is.number; width = is.width; clock = let c = is.clock in omega arith }

switches_after : (topology : Topology) (before after : Shared) (failed : Option ℕ) (switches : List State)
    → ((s : ℕ) (state : State) → slice_get switches s ≡ Some state → IsSwitchOf topology.ports before s state)
    → ((s : ℕ) → waiting_seconds s after.pools ≤ waiting_seconds s before.pools + 1000000) → after.inputs ≡ before.inputs + 1
    → (s : ℕ) (state : State) → slice_get (renewed topology failed switches) s ≡ Some state → IsSwitchOf topology.ports after s state
switches_after topology before after None switches each more count s state here = switch_after topology.ports before after s state (each s state here) (more s) count
switches_after topology before after (Some failed) switches each more count s state here = elim (get_set switches failed (fresh failed (slice_index topology.ports failed)) s state here) [
  | inl same ↦ switch_after topology.ports before after s state (each s state same) (more s) count
  | inr new ↦
      let old = each s new.2.0 new.2.1 in
      let anew : IsSwitchOf topology.ports after s (fresh s (slice_index topology.ports s)) = record { number = refl; width = refl; clock = let c = old.clock in let m = more s in omega arith } in
      subst (λ (n : State). IsSwitchOf topology.ports after s n) (sym (new.1 ∙ ap (λ n. fresh n (slice_index topology.ports n)) (sym new.0))) anew
]

-- ---- the world

-- no switch has more than 48 ports
pub narrow : (ports : List ℕ) → All (λ ports. (1 ≤ ports) × (ports ≤ 48)) ports → (s : ℕ) → slice_index ports s ≤ 48
narrow ports each s = elim (cases_lt s (length ports)) [ inl here ↦ (each s 0 here).1 | inr past ↦ let none = get_or_past ports s 0 past in omega arith ]

module _ {C : Type 0} (policies : C → ℕ) where
  pub fits_by_input : (react : C → UpItem → Reaction C) (setup : Setup C) (world : Situation C) (input : Input) → IsValidSetup setup → IsInput setup.topology (length setup.controllers) input → Fits policies setup world
      → world.shared.inputs < 4294 → Fits policies setup (counted_world 1 (with_input react setup.topology input world))
  fits_by_input react setup world input valid named fits few =
      let topology = setup.topology in
      let before = world.shared in
      let change = effect topology before.status input in
      let can = effect_fits topology (length setup.controllers) before.status input fits.shared.status named in
      let brings = effect_few topology before.status input fits.shared.status (narrow topology.ports valid.network.switches.ports) in
      let base = cleared change.status change.flushes before in
      let after = counted 1 (delivered change.mail base) in
      let clean = shared_cleared topology (length setup.controllers) change.status change.flushes before fits.shared can.status can.downs in
      let clocks : (s : ℕ) → waiting_seconds s after.pools ≤ waiting_seconds s before.pools + 1000000 = λ s.
      let more = seconds_delivered s change.mail base.pools in
      let no_more = seconds_cleared s change.flushes before.pools in
      let told = can.seconds s in
      omega arith in
      let failed = fails before.status input in record {
        shared = shared_delivered topology (length setup.controllers) 1 change.mail base clean can.mail brings;
        switches = length_renewed topology failed world.switches ∙ fits.switches;
        each_switch = switches_after topology before after failed world.switches fits.each_switch clocks refl;
        controllers = fits.controllers;
        inputs = omega arith;
        each_controller = λ c state here.
            let old = fits.each_controller c state here in
            let more = policies_delivered c change.mail base.pools in
            let no_more = policies_cleared c change.flushes before.pools in
            let told = can.policies c in
            omega arith;
      }
