-- What a world tells of what waits, and what it needs of a setup to start.
use Rattle.std.proofs.Common.{◌≡◌, ◌∙◌, ◌↔◌, ℕ, ◌+◌, ◌<◌, ◌≤◌, ◌^◌, Bool, true, false, List, [], ◌∷◌, ◌++◌, length, map, take, slice_get, zero, suc, Option, Some, None, option_map, All, ap, ap₂, arith, inl, inr, refl, subst, sym}
use Rattle.std.specs.Prelude.{IsTrue, get_or, nat_le, slice_index, zip}
use Rattle.std.specs.List.{enumerate_from}
use Rattle.std.proofs.lemmas.Bool.{and_parts, leb-true}
use Rattle.std.proofs.lemmas.List.{length-map, take_more}
use Rattle.std.proofs.lemmas.List.Elements.{All-cons, All-head, All-map, All-nil, All-tail, All-weaker}
use Rattle.std.proofs.lemmas.List.Sums.{sum_by-le}
use Rattle.std.proofs.lemmas.Nat.{mul-le}
use Rattle.std.proofs.lemmas.Option.{get_or_from_slice_get, same_Some, slice_get_within}
use Rattle.listed.specs.Lists.{all_unmapped}
use Rattle.flow_table.specs.Entry.{IsTable, IsValidEntry}
use Rattle.flow_table.specs.Expiry.{IsPast}
use Rattle.flow_table.specs.declared.entry.Entry.{Entry}
use Rattle.machine_setup.specs.Setup.{IsNetwork, IsPreset, IsPresetAction, IsPresetPort, IsPresetsAt, IsValidSetup, entry_of}
use Rattle.machine_setup.specs.declared.preset.Preset.{Preset}
use Rattle.machine_setup.specs.declared.script.Line.{Line}
use Rattle.machine_setup.specs.declared.setup.Setup.{Setup}
use Rattle.message_pools.specs.Queue.{Queue, Reserved, head_of}
use Rattle.message_pools.specs.declared.item.Item.{Item}
use Rattle.of10_messages.specs.Valid.{IsValidAction}
use Rattle.of10_messages.specs.declared.action.Action.{Action}
use Rattle.of10_messages.specs.declared.action.Action.TheVariants as action
use Rattle.pool_book.specs.Names.{names}
use Rattle.pool_book.specs.Order.{length_names}
use Rattle.pool_book.specs.Pools.{IsQuiet, Named, first_waiting, pool_of, queues}
use Rattle.pool_book.specs.declared.name.PoolName.{PoolName}
use Rattle.switch_core.specs.declared.state.State.{State}
use Rattle.topology.specs.declared.network.Topology.{Topology}
use Rattle.event_world.proofs.Fitting.{fits_start}
use Rattle.event_world.proofs.Named.{pool_of_queues}
use Rattle.event_world.proofs.Starting.{length_switches}
use Rattle.event_world.specs.Answers.{is_quiet, next_line}
use Rattle.event_world.specs.Events.{pool_name}
use Rattle.event_world.specs.Fits.{Fits}
use Rattle.event_world.specs.Mail.{Shared}
use Rattle.event_world.specs.World.{Situation, head_for, start, start_shared, switch_at_start, switches_at_start}
use Rattle.event_world.specs.declared.event.Event.{Event}
use Rattle.event_world.specs.declared.event.Event.TheVariants.{In}

-- ---- what waits

-- whether something waits in the first pool, by its items
none_with : (name : PoolName) (first : ℕ) (items : List Item) (pools : Named) → (first_waiting pools ≡ None → IsQuiet pools) → first_waiting ((name, record { first = first; items = items }) ∷ pools) ≡ None → IsQuiet ((name, record { first = first; items = items }) ∷ pools)
none_with name first [] pools rest none = All-cons (λ (pool : PoolName × Queue). pool.1.items ≡ []) (name, record { first = first; items = [] }) pools refl (rest none)
none_with name first (item ∷ items) pools rest none = absurd cc

quiet_with : (name : PoolName) (first : ℕ) (items : List Item) (pools : Named) → items ≡ [] → first_waiting pools ≡ None → first_waiting ((name, record { first = first; items = items }) ∷ pools) ≡ None
quiet_with name first [] pools empty none = none
quiet_with name first (item ∷ items) pools empty none = absurd cc

-- where no pool is the first in which something waits, nothing waits
pub none_waits : (pools : Named) → first_waiting pools ≡ None → IsQuiet pools
none_waits [] none = All-nil (λ (pool : PoolName × Queue). pool.1.items ≡ [])
none_waits (pool ∷ pools) none = none_with pool.0 pool.1.first pool.1.items pools (λ rest. none_waits pools rest) none

pub quiet_none : (pools : Named) → IsQuiet pools → first_waiting pools ≡ None
quiet_none [] quiet = refl
quiet_none (pool ∷ pools) quiet =
    quiet_with pool.0 pool.1.first pool.1.items pools (All-head (λ (pool : PoolName × Queue). pool.1.items ≡ []) pool pools quiet)
    (quiet_none pools (All-tail (λ (pool : PoolName × Queue). pool.1.items ≡ []) pool pools quiet))

-- an answer that is none where no pool is the first is none exactly where all is quiet
pub none_quiet : {A : Type 0} (pools : Named) (event : Option A) → first_waiting pools ≡ None → event ≡ None → (event ≡ None) ↔ IsQuiet pools
none_quiet pools event none is = (λ same. none_waits pools none, λ quiet. is)

-- and one that is something where a pool is the first
pub some_quiet : {A : Type 0} (pools : Named) (one : PoolName × ℕ) (event : A) → first_waiting pools ≡ Some one → (◌≡◌ {A = Option A} (Some event) None) ↔ IsQuiet pools
some_quiet pools one event is = (λ same. absurd cc, λ quiet. let none = quiet_none pools quiet in absurd cc)

-- a test that tells whether all is quiet is the one by the first
quiet_by : (pools : Named) (quiet : Bool) (first : Option (PoolName × ℕ)) → first_waiting pools ≡ first → (IsTrue quiet ↔ IsQuiet pools) → quiet ≡ is_quiet pools
quiet_by pools true first is same = let none = quiet_none pools (same.0 refl) in rw none refl
quiet_by pools false None is same = let never : false ≡ true = same.1 (none_waits pools is) in absurd cc
quiet_by pools false (Some one) is same = rw is refl

pub quiet_is : (pools : Named) (quiet : Bool) → (IsTrue quiet ↔ IsQuiet pools) → quiet ≡ is_quiet pools
quiet_is pools quiet same = quiet_by pools quiet (first_waiting pools) refl same

-- ---- the next line

-- a marked line waits where something waits
pub line_waits : (script : List Line) (shared : Shared) (line : Line) (quiet : Bool) → slice_get script shared.inputs ≡ Some line → line.after_quiet ≡ true → (IsTrue quiet ↔ IsQuiet shared.pools) → quiet ≡ false → next_line script shared ≡ None
line_waits script shared line quiet at marked same fails =
    let waits : is_quiet shared.pools ≡ false = sym (quiet_is shared.pools quiet same) ∙ fails in
    rw (at, marked, waits) refl

-- where nothing waits it doesn't
pub line_quiet : (script : List Line) (shared : Shared) (line : Line) (quiet : Bool) → slice_get script shared.inputs ≡ Some line → line.after_quiet ≡ true → (IsTrue quiet ↔ IsQuiet shared.pools) → quiet ≡ true → next_line script shared ≡ Some (In shared.inputs)
line_quiet script shared line quiet at marked same holds =
    let nothing : is_quiet shared.pools ≡ true = sym (quiet_is shared.pools quiet same) ∙ holds in
    rw (at, marked, nothing) refl

-- and without a mark it doesn't
pub line_unmarked : (script : List Line) (shared : Shared) (line : Line) → slice_get script shared.inputs ≡ Some line → line.after_quiet ≡ false → next_line script shared ≡ Some (In shared.inputs)
line_unmarked script shared line at marked = rw (at, marked) refl

-- ---- the first item of an event's pool

pub head_missing : (shared : Shared) (pools : List (PoolName × Reserved)) (event : Event) (name : PoolName) → queues pools ≡ shared.pools → pool_name event ≡ Some name → pool_of name pools ≡ None → head_for shared event ≡ None
head_missing shared pools event name same is none =
    let there : pool_of name shared.pools ≡ None = ap (pool_of name) (sym same) ∙ pool_of_queues name pools ∙ ap (option_map (λ (pool : Reserved). pool.queue)) none in
    rw (is, there) refl

pub head_there : (shared : Shared) (pools : List (PoolName × Reserved)) (event : Event) (name : PoolName) (pool : Reserved) → queues pools ≡ shared.pools → pool_name event ≡ Some name → pool_of name pools ≡ Some pool → head_for shared event ≡ head_of pool.queue
head_there shared pools event name pool same is at =
    let there : pool_of name shared.pools ≡ Some pool.queue = ap (pool_of name) (sym same) ∙ pool_of_queues name pools ∙ ap (option_map (λ (pool : Reserved). pool.queue)) at in
    rw (is, there) refl

-- ---- the pools of a network are few

pub few_names : (topology : Topology) (controllers : ℕ) → IsNetwork topology controllers → controllers ≤ 8 → length (names topology.ports controllers (length topology.hosts)) ≤ 4096
few_names topology controllers network few =
    let all = length_names topology.ports controllers (length topology.hosts) in
    let count = network.switches.count in
    let hosts = network.hosts in
    let ports = sum_by-le (λ (count : ℕ). count) 48 topology.ports (All-weaker (λ count. (1 ≤ count) × (count ≤ 48)) (λ count. count ≤ 48) (λ count h. h.1) topology.ports network.switches.ports) in
    let apps = mul-le controllers (length topology.ports) 8 64 few count in
    omega arith

-- ---- presets

preset_port : (ports port : ℕ) → ports ≤ 48 → IsPresetPort ports port → port < 2 ^ 16
preset_port ports port few (inl own) = let both = and_parts (nat_le 1 port) (nat_le port ports) own in let upper = leb-true port ports both.1 in omega arith
preset_port ports port few (inr (inl e)) = omega arith
preset_port ports port few (inr (inr (inl e))) = omega arith
preset_port ports port few (inr (inr (inr (inl e)))) = omega arith
preset_port ports port few (inr (inr (inr (inr e)))) = omega arith

-- an action of a preset is valid
preset_action : (ports : ℕ) (a : Action) → ports ≤ 48 → IsPresetAction ports a → IsValidAction a
preset_action ports (action.Output port max_len) few h = (preset_port ports port few h.0, h.1)
preset_action ports (action.SetVlanVid vlan) few h = omega arith
preset_action ports (action.SetVlanPcp pcp) few h = omega arith
preset_action ports action.StripVlan few h = h
preset_action ports (action.SetDlSrc address) few h = h
preset_action ports (action.SetDlDst address) few h = h
preset_action ports (action.SetNwSrc address) few h = h
preset_action ports (action.SetNwDst address) few h = h
preset_action ports (action.SetNwTos tos) few h = h
preset_action ports (action.SetTpSrc port) few h = h
preset_action ports (action.SetTpDst port) few h = h
preset_action ports (action.Other kind body) few h = absurd h

-- the entry of a preset is valid
preset_entry : (ports : ℕ) (preset : Preset) → ports ≤ 48 → IsPreset ports preset → IsValidEntry (entry_of preset)
preset_entry ports preset few h = record {
  matches = h.matches;
  priority = h.priority;
  cookie = h.cookie;
  idle = h.idle;
  hard = h.hard;
  flags = let flags = h.flags in omega arith;
  actions = All-weaker (IsPresetAction ports) IsValidAction (λ a one. preset_action ports a few one) preset.actions h.actions;
  added = omega arith;
  hit = omega arith;
  packets = omega arith;
  bytes = omega arith;
}

-- presets make a table, of entries of time 0, each with few actions
pub preset_table : (ports : ℕ) (presets : List Preset) → ports ≤ 48 → IsPresetsAt ports presets → IsTable (map entry_of presets)
preset_table ports presets few h = record {
  valid = All-map IsValidEntry entry_of presets (All-weaker (IsPreset ports) (λ (preset : Preset). IsValidEntry (entry_of preset)) (λ preset one. preset_entry ports preset few one) presets h.each);
  few = let long = length-map presets entry_of in let most = h.few in omega arith;
}

pub preset_past : (presets : List Preset) → All (IsPast 0) (map entry_of presets)
preset_past presets = All-map (IsPast 0) entry_of presets (λ k d below. record { added = omega arith; hit = omega arith })

pub preset_small : (ports : ℕ) (presets : List Preset) → IsPresetsAt ports presets → All (λ (entry : Entry). length entry.actions ≤ 8183) (map entry_of presets)
preset_small ports presets h =
    All-map (λ (entry : Entry). length entry.actions ≤ 8183) entry_of presets
    (All-weaker (IsPreset ports) (λ (preset : Preset). length preset.actions ≤ 8183) (λ preset one. let few = one.few in omega arith) presets h.each)

-- ---- switches

-- the switch at a place starts with its number, its ports and its presets
started_at : (ports : List ℕ) (presets : List (List Preset)) (from s n : ℕ) (list : List Preset) → n ≡ from + s → s < length ports → slice_get presets s ≡ Some list → slice_get (map (λ switch. switch_at_start switch.0 switch.1.0 switch.1.1) (enumerate_from from (zip ports presets))) s ≡ Some (switch_at_start n (slice_index ports s) list)
started_at [] presets from s n list number below at = absurd (omega arith)
started_at (count ∷ ports) [] from s n list number below at = absurd cc
started_at (count ∷ ports) (one ∷ presets) from zero n list number below at =
    let here : n ≡ from = omega arith in
    let same : one ≡ list = same_Some one list at in
    rw (here, same) refl
started_at (count ∷ ports) (one ∷ presets) from (suc s) n list number below at = started_at ports presets (from + 1) s n list (omega arith) (omega arith) at

pub preset_switch : (ports : List ℕ) (presets : List (List Preset)) (s : ℕ) (list : List Preset) → s < length ports → slice_get presets s ≡ Some list → slice_get (switches_at_start ports presets) s ≡ Some (switch_at_start s (slice_index ports s) list)
preset_switch ports presets s list below at = started_at ports presets 0 s s list (omega arith) below at

-- one switch more of those with which a setup starts
pub one_started : (ports : List ℕ) (presets : List (List Preset)) (s : ℕ) (list : List Preset) (before after : List State) (state : State) → length presets ≡ length ports → slice_get presets s ≡ Some list → before ≡ take s (switches_at_start ports presets) → after ≡ before ++ state ∷ [] → state ≡ switch_at_start s (slice_index ports s) list → after ≡ take (s + 1) (switches_at_start ports presets)
one_started ports presets s list before after state same at so_far pushed is =
    let whole = switches_at_start ports presets in
    let long = length_switches ports presets same in
    let within = slice_get_within presets s list at in
    let there = preset_switch ports presets s list (omega arith) at in
    let read : state ≡ get_or whole s state = is ∙ sym (get_or_from_slice_get whole s (switch_at_start s (slice_index ports s) list) state there) in
    let more = take_more whole s state (omega arith) in
    pushed ∙ ap₂ (λ (xs : List State) (x : State). xs ++ x ∷ []) so_far read ∙ sym more

-- ---- the world that is made

-- a world that is made of the parts of a setup is the one with which the setup starts
pub start_made : {C : Type 0} (first : C → C) (setup : Setup C) (count : ℕ) (ports : List ℕ) (presets : List (List Preset)) (controllers : List C) (world : Situation C) → count ≡ length setup.controllers → ports ≡ setup.topology.ports → presets ≡ setup.presets → controllers ≡ setup.controllers → world.shared ≡ start_shared setup.topology count → world.switches ≡ switches_at_start ports presets → world.controllers ≡ map first controllers → world ≡ start first setup
start_made {C = C} first setup count ports presets controllers world same_count same_ports same_presets same_controllers shared switches each =
    let shared' = shared ∙ ap (start_shared setup.topology) same_count in
    let switches' = switches ∙ ap₂ switches_at_start same_ports same_presets in
    let each' = each ∙ ap (map first) same_controllers in
    let two : ◌≡◌ {A = Situation C} world (record { shared = start_shared setup.topology (length setup.controllers); switches = switches_at_start setup.topology.ports setup.presets; controllers = world.controllers }) =
    ap₂ (λ (s : Shared) (all : List State). record { shared = s; switches = all; controllers = world.controllers }) shared' switches' in
    two ∙ ap (λ (cs : List C). record { shared = start_shared setup.topology (length setup.controllers); switches = switches_at_start setup.topology.ports setup.presets; controllers = cs }) each'

-- it fits the setup, where no controller has a policy
pub fits_made : {C : Type 0} (policies : C → ℕ) (first : C → C) (setup : Setup C) (world : Situation C) → IsValidSetup setup → world ≡ start first setup → All (λ c. policies c ≡ 0) world.controllers → Fits policies setup world
fits_made {C = C} policies first setup world valid same none =
    let fresh = subst (λ (w : Situation C). All (λ c. policies c ≡ 0) w.controllers) same none in
    subst (λ (w : Situation C). Fits policies setup w) (sym same) (fits_start policies first setup valid (all_unmapped (λ c. policies c ≡ 0) first setup.controllers fresh))
