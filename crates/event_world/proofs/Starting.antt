-- What the world has that a setup starts with: pools in which at most a notice waits, switches that have just started.
use Rattle.std.proofs.Common.{◌≡◌, ◌∙◌, ℕ, ◌+◌, ◌<◌, ◌≤◌, true, false, List, [], ◌∷◌, length, map, replicate, zip, zero, suc, filter_map, slice_get, slice_index, Option, Some, None, option_map, All, ap, arith, refl, subst, sym}
use Rattle.std.specs.List.{enumerate_from}
use Rattle.std.specs.Option.{option_map_or}
use Rattle.std.proofs.lemmas.List.{get_or-replicate, length-map, length-replicate}
use Rattle.std.proofs.lemmas.List.Elements.{All-map, All-nil, All-replicate, All-weaker}
use Rattle.std.proofs.lemmas.List.FromFn.{length-enumerate_from}
use Rattle.std.proofs.lemmas.Option.{same_Some, unwrap_or-slice_get}
use Rattle.std.proofs.lemmas.Slice.Zip.{length-zip}
use Rattle.machine_setup.specs.Setup.{IsNetwork}
use Rattle.machine_setup.specs.declared.preset.Preset.{Preset}
use Rattle.message_pools.specs.Queue.{Queue, empty_queue, next_number, with_last}
use Rattle.message_pools.specs.declared.item.Item.{Item}
use Rattle.message_pools.specs.declared.item.Item.TheVariants as item
use Rattle.of10_messages.specs.declared.notice.Notice.TheVariants.{Join}
use Rattle.pool_book.specs.Names.{is_same, names}
use Rattle.pool_book.specs.Pools.{Named, changed, empty_pools, pool_of}
use Rattle.pool_book.specs.declared.name.PoolName.{PoolName}
use Rattle.pool_book.specs.declared.name.PoolName.TheVariants.{Note}
use Rattle.switch_core.specs.declared.state.State.{State}
use Rattle.topology.specs.Status.{IsStatus, is_up, start_of}
use Rattle.topology.specs.declared.network.Topology.{Topology}
use Rattle.topology.specs.declared.status.Status.{Status}
use Rattle.event_world.specs.Fits.{IsDeliverable, IsItemOf, IsPool, IsShared}
use Rattle.event_world.specs.Inputs.{tells}
use Rattle.event_world.specs.Mail.{Mail, with_mail}
use Rattle.event_world.specs.World.{first_joins, start_shared, switch_at_start, switches_at_start}
use Rattle.event_world.proofs.Delivered.{IsHeld, held, held_put, names_with_mail, pool_held}
use Rattle.pool_book.specs.Change.{same_name}
use Rattle.event_world.proofs.Named.{all_named, all_pool_of}
use Rattle.event_world.proofs.Lists.{all_given}
use Rattle.event_world.proofs.Sent.{IsSilent}

-- ---- the status

-- the status that a network starts with is one of it
pub status_start : (topology : Topology) (controllers : ℕ) → IsNetwork topology controllers → IsStatus topology (start_of topology)
status_start topology controllers network = record {
  links = length-replicate (length topology.links) true;
  switches = length-replicate (length topology.ports) true;
  controls = length-replicate (length topology.ports) true;
  hosts = length-map topology.hosts _;
  ends = network.wired.ends;
  places = network.wired.places;
  apart = network.wired.apart;
  few_switches = let few = network.switches.count in omega arith;
  few_links = let few = network.links in omega arith;
  few_hosts = let few = network.hosts in omega arith;
}

-- each of its switches is up
up_start : (topology : Topology) (s : ℕ) → s < length topology.ports → is_up (start_of topology).switch_up s ≡ true
up_start topology s below = unwrap_or-slice_get (replicate (length topology.ports) true) s false ∙ get_or-replicate (length topology.ports) s true false below

-- ---- the first notices

-- the joins of switches from a number on
abbrev joins_from : ℕ → List (Option ℕ) → Mail
joins_from from owners = filter_map (λ owner. option_map (λ c. tells owner.0 (Join 0)) owner.1) (enumerate_from from owners)

-- a pool in which at most one item came, and none where its switch has yet to join
pub record IsFresh (ports : List ℕ) (status : Status) (from : ℕ) (pool : PoolName × Queue) : Type 0 where
  pub held : IsHeld ports status 1 pool
  pub later : (s : ℕ) → pool.0 ≡ Note s → from ≤ s → next_number pool.1 ≤ 0

fresh_later : (ports : List ℕ) (status : Status) (from more : ℕ) (pool : PoolName × Queue) → from ≤ more → IsFresh ports status from pool → IsFresh ports status more pool
fresh_later ports status from more pool le h = record { held = h.held; later = λ s is at. h.later s is (omega arith) }

all_later : (ports : List ℕ) (status : Status) (from more : ℕ) (pools : Named) → from ≤ more → All (IsFresh ports status from) pools → All (IsFresh ports status more) pools
all_later ports status from more pools le all = All-weaker (IsFresh ports status from) (IsFresh ports status more) (λ pool h. fresh_later ports status from more pool le h) pools all

-- a switch joins
join_deliverable : (ports : List ℕ) (status : Status) (s : ℕ) → is_up status.switch_up s ≡ true → IsDeliverable ports status (tells s (Join 0))
join_deliverable ports status s up = record { kind = tt; up = λ t at. subst (λ (n : ℕ). is_up status.switch_up n ≡ true) (same_Some s t at) up }

fresh_joined : (ports : List ℕ) (status : Status) (from : ℕ) (pool : PoolName × Queue) → is_up status.switch_up from ≡ true → is_same (Note from) pool.0 ≡ true → IsFresh ports status from pool → IsFresh ports status (from + 1) (pool.0, with_last pool.1 (item.Notice (Join 0)))
fresh_joined ports status from pool up same h =
    let here : Note from ≡ pool.0 = same_name (Note from) pool.0 same in
    let none : IsHeld ports status 0 pool = record { items = h.held.items; numbers = h.later from (sym here) (omega arith); down = h.held.down } in
    record {
      held = held_put ports status 0 (tells from (Join 0)) pool (join_deliverable ports status from up) same none;
      later = λ s is at. let one : Note from ≡ Note s = here ∙ is in let equal : from ≡ s = cc in absurd (omega arith);
    }

-- switches join, each once
joins_fresh : (ports : List ℕ) (status : Status) (from : ℕ) (owners : List (Option ℕ)) (pools : Named) → ((s : ℕ) → s < from + length owners → is_up status.switch_up s ≡ true) → All (IsFresh ports status from) pools → All (IsFresh ports status (from + length owners)) (with_mail (joins_from from owners) pools)
joins_fresh ports status from [] pools up all = all_later ports status from (from + 0) pools (omega arith) all
joins_fresh ports status from (None ∷ owners) pools up all =
    let rest = joins_fresh ports status (from + 1) owners pools (λ s below. up s (omega arith)) (all_later ports status from (from + 1) pools (omega arith) all) in
    all_later ports status ((from + 1) + length owners) (from + suc (length owners)) (with_mail (joins_from (from + 1) owners) pools) (omega arith) rest
joins_fresh ports status from (Some c ∷ owners) pools up all =
    let after = changed (Note from) (λ queue. with_last queue (item.Notice (Join 0))) pools in
    let joined = all_named (IsFresh ports status from) (IsFresh ports status (from + 1)) (Note from) (λ queue. with_last queue (item.Notice (Join 0))) pools all
    (λ pool h. fresh_later ports status from (from + 1) pool (omega arith) h)
    (λ pool same h. fresh_joined ports status from pool (up from (omega arith)) same h) in
    let rest = joins_fresh ports status (from + 1) owners after (λ s below. up s (omega arith)) joined in
    all_later ports status ((from + 1) + length owners) (from + suc (length owners)) (with_mail (joins_from (from + 1) owners) after) (omega arith) rest

-- nothing waits before
empty_fresh : (ports : List ℕ) (status : Status) (all : List PoolName) → All (IsFresh ports status 0) (map (λ name. (name, empty_queue)) all)
empty_fresh ports status all = All-map (IsFresh ports status 0) (λ (name : PoolName). (name, empty_queue)) all (λ k d lt. record {
  held = record { items = All-nil (IsItemOf ports _); numbers = omega arith; down = λ s at down. refl };
  later = λ s is at. omega arith;
})

names_empty : (all : List PoolName) → map (λ (pool : PoolName × Queue). pool.0) (map (λ name. (name, empty_queue)) all) ≡ all
names_empty [] = refl
names_empty (name ∷ all) = ap (λ rest. name ∷ rest) (names_empty all)

-- the shared part that a network starts with is one of it
pub shared_start : (topology : Topology) (controllers : ℕ) → IsNetwork topology controllers → IsShared topology controllers (start_shared topology controllers)
shared_start topology controllers network =
    let all = names topology.ports controllers (length topology.hosts) in
    let status = start_of topology in
    let owners = network.switches.owners in
    let fresh = joins_fresh topology.ports status 0 topology.owner (empty_pools topology.ports controllers (length topology.hosts)) (λ s below. up_start topology s (omega arith)) (empty_fresh topology.ports status all) in
    record {
      status = status_start topology controllers network;
      received = length-replicate (length topology.hosts) 0;
      counts = All-replicate (λ (count : ℕ). count ≤ 0) (length topology.hosts) 0 (omega arith);
      names = names_with_mail (first_joins topology.owner) (empty_pools topology.ports controllers (length topology.hosts)) ∙ names_empty all;
      pools = All-weaker (IsFresh topology.ports status (0 + length topology.owner)) (IsPool topology.ports status 0) (λ pool h. pool_held topology.ports status 1 0 pool (omega arith) h.held) (start_shared topology controllers).pools fresh;
    }

-- the first notices tell of no seconds
pub joins_silent : (from : ℕ) (owners : List (Option ℕ)) → All IsSilent (joins_from from owners)
joins_silent from owners =
    all_given (λ (owner : ℕ × Option ℕ). Unit {0}) IsSilent (λ owner. option_map (λ c. tells owner.0 (Join 0)) owner.1) (enumerate_from from owners) (λ k d lt. tt) (λ owner one any e. join_silent owner.0 owner.1 one e) where
      join_silent : (s : ℕ) (owner : Option ℕ) (one : PoolName × Item) → option_map (λ c. tells s (Join 0)) owner ≡ Some one → IsSilent one
      join_silent s None one e = absurd cc
      join_silent s (Some c) one e = subst IsSilent (same_Some (tells s (Join 0)) one e) (record { seconds = refl; policy = λ c. refl })

-- a pool in which nothing waits has nothing
pub held_empty : (measure : Queue → ℕ) (name : PoolName) (all : List PoolName) → measure empty_queue ≡ 0 → held measure name (map (λ name. (name, empty_queue)) all) ≡ 0
held_empty measure name all none = of_pool (pool_of name (map (λ name. (name, empty_queue)) all)) refl where
  empty : All (λ (pool : PoolName × Queue). pool.1 ≡ empty_queue) (map (λ name. (name, empty_queue)) all)
  empty = All-map (λ (pool : PoolName × Queue). pool.1 ≡ empty_queue) (λ (name : PoolName). (name, empty_queue)) all (λ k d lt. refl)

  of_pool : (pool : Option Queue) → pool_of name (map (λ name. (name, empty_queue)) all) ≡ pool → option_map_or measure pool 0 ≡ 0
  of_pool None e = refl
  of_pool (Some queue) e = ap measure (all_pool_of (λ (pool : PoolName × Queue). pool.1 ≡ empty_queue) name (map (λ name. (name, empty_queue)) all) queue empty e) ∙ none

-- ---- the switches

pub length_switches : (ports : List ℕ) (presets : List (List Preset)) → length presets ≡ length ports → length (switches_at_start ports presets) ≡ length ports
length_switches ports presets same =
    let all = length-map (enumerate_from 0 (zip ports presets)) (λ (switch : ℕ × (ℕ × List Preset)). switch_at_start switch.0 switch.1.0 switch.1.1) in
    let numbered = length-enumerate_from 0 (zip ports presets) in
    let both = length-zip ports presets in
    omega arith

-- a switch starts with its number, its ports and a clock at 0
pub record IsStarted (ports : List ℕ) (s place : ℕ) (state : State) : Type 0 where
  pub number : state.number ≡ s
  pub width : state.ports ≡ slice_index ports place
  pub clock : state.clock ≡ 0

switch_started : (ports : List ℕ) (presets : List (List Preset)) (from s : ℕ) (state : State) → slice_get (map (λ switch. switch_at_start switch.0 switch.1.0 switch.1.1) (enumerate_from from (zip ports presets))) s ≡ Some state → IsStarted ports (from + s) s state
switch_started [] presets from s state at = absurd cc
switch_started (count ∷ ports) [] from s state at = absurd cc
switch_started (count ∷ ports) (list ∷ presets) from zero state at = subst (IsStarted (count ∷ ports) (from + 0) 0) (same_Some (switch_at_start from count list) state at) (record { number = omega arith; width = refl; clock = refl })
switch_started (count ∷ ports) (list ∷ presets) from (suc s) state at =
    let h = switch_started ports presets (from + 1) s state at in
    record { number = let n = h.number in omega arith; width = h.width; clock = h.clock }

pub started_switch : (ports : List ℕ) (presets : List (List Preset)) (s : ℕ) (state : State) → slice_get (switches_at_start ports presets) s ≡ Some state → IsStarted ports s s state
started_switch ports presets s state at = let h = switch_started ports presets 0 s state at in record { number = let n = h.number in omega arith; width = h.width; clock = h.clock }
